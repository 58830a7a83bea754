use Rattle.mat_union.proofs.Common.{◌≡◌, ◌∙◌, arith, length, map, subst, sym, length-map, family_union, AllBelow, IsSubset, AreParts}
use Rattle.mat_union.proofs.PartsOfSets.{rest_below, taken_are, taken_inside, taken_more, taken_none}
use Rattle.mat_union.proofs.SoundMatroids.{sound_at, test_is}
use Rattle.mat_union.proofs.kept_parts.greedy_parts.Goals as goal

pub loop-i-init : goal.loop-i-init
loop-i-init g c = taken_none (map g.M.Asked.indep c.args.matroids.now) c.args.set.now _ c.in_ok-rest.rest c.new-parts.ensures.items c.in_ok-rest.ensures.equal

pub base_within-requires-clause-below : goal.base_within-requires-clause-below
base_within-requires-clause-below g c =
    let at = sound_at g.M.Asked.ground_size g.M.Asked.sound c.args._n c.args.matroids.now c.requires.sound c.loop-i.i c.index-matroids-i.result c.loop-i-test.true c.index-matroids-i.is in
    subst (λ k. AllBelow k c.loop-i.rest) (sym at.1) (rest_below c.loop-i.invariant c.args._n c.requires.below)

pub loop-i-preserved : goal.loop-i-preserved
loop-i-preserved g c = taken_more c.loop-i.invariant (g.M.Asked.indep c.index-matroids-i.result) c.in_ok-part.part
    (test_is g.M.Asked.indep c.args.matroids.now c.loop-i.i c.index-matroids-i.result c.loop-i-test.true c.index-matroids-i.is) c.in_ok-part.ensures _ c.in_ok-rest-2.rest c.in_ok-push.ensures.items c.in_ok-rest-2.ensures.members

pub returns-clause-are : goal.returns-clause-are
returns-clause-are g c =
    let tests = map g.M.Asked.indep c.args.matroids.now in
    let end : length tests ≡ c.loop-i.i = length-map c.args.matroids.now g.M.Asked.indep ∙ omega (arith, c.loop-i-test.false, c.loop-i.auto.i-end) in
    subst (AreParts tests) (sym c.new.ensures.items) (taken_are c.loop-i.invariant end)

pub returns-clause-inside : goal.returns-clause-inside
returns-clause-inside g c = subst (λ p. IsSubset (family_union p) c.args.set.now) (sym c.new.ensures.items) (taken_inside c.loop-i.invariant)
