use Rattle.mat_facts.proofs.Common.{◌<◌, ◌∙◌, ap, arith, length, map, sym, get_or-map, length-map}
use Rattle.mat_facts.specs.Views.{facts_of}
use Rattle.mat_facts.proofs.PutFacts.{most_told}
use Rattle.mat_facts.proofs.unions.put_each_most.Goals as goal

pub loop-i-preserved : goal.loop-i-preserved
loop-i-preserved g c =
    let matroids = c.args.matroids.now in
    let indep = g.M.Matroid.indep in
    let m = c.index-matroids-i.result in
    let here : c.loop-i.i < length matroids = omega (arith, c.loop-i-test.true) in
    let inside : c.loop-i.i < length (map indep matroids) = omega (arith, here, length-map matroids indep) in
    most_told _ (facts_of c.loop-i.facts.items) _ c.args.set.now (map indep matroids) c.loop-i.i (indep m) inside
    (get_or-map indep matroids c.loop-i.i m (indep m) here ∙ ap indep (sym c.index-matroids-i.is)) c.loop-i.invariant c.in_ok-put_most.ensures
