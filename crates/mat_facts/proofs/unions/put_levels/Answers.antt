use Rattle.mat_facts.proofs.Common.{map, level_facts}
use Rattle.mat_facts.specs.Views.{facts_of}
use Rattle.mat_facts.proofs.PutFacts.{each_told}
use Rattle.mat_facts.proofs.unions.put_levels.Goals as goal

pub loop-j-preserved : goal.loop-j-preserved
loop-j-preserved g c =
    each_told (level_facts (map g.M.Matroid.indep c.args.matroids.now) c.args.joined.now.weights.now c.args.joined.now.parts.now)
    _ (facts_of c.loop-j.facts.items) _ c.args.levels.now c.loop-j.j c.index-levels-j.result c.loop-j-test.true c.index-levels-j.is
    c.loop-j.invariant c.in_ok-put_level.ensures
