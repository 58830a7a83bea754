use Rattle.mat_check.proofs.Common.{◌<◌, [], ◌∷◌, map, sym, subst, ap, ◌∙◌, test_at, first_failure, independent_clause}
use Rattle.mat_union.proofs.SoundMatroids.{test_is}
use Rattle.mat_check.proofs.NumberedFailures.{passed_next}
use Rattle.mat_check.proofs.sets.unions.parts_failure.Goals as goal

pub loop-i-preserved : goal.loop-i-preserved
loop-i-preserved g c =
    let matroids = c.args.matroids.now in
    let part = c.index-parts-i.result in
    let test = test_is g.M.Matroid.indep matroids c.loop-i.i c.index-matroids-i.result
    (subst (λ k. c.loop-i.i < k) c.requires.one_each c.loop-i-test.true) c.index-matroids-i.is in
    passed_next (λ i set. independent_clause (test_at (map g.M.Matroid.indep matroids) i) i set ∷ []) c.args.parts.now c.loop-i.i part
    c.loop-i-test.true c.index-parts-i.is c.loop-i.invariant
    (ap (λ t. first_failure (independent_clause t c.loop-i.i part ∷ [])) test ∙ sym c.in_ok-failure.ensures ∙ c.in_default.is)
