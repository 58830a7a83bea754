use Rattle.mat_check.proofs.Common.{◌∙◌, length, map, subst, sym, IfOk-weaker, IsSet, IsSet-family_union}
use Rattle.mat_check.proofs.UnionFailures.{levels_are_left, part_depends, union_overlaps, weight_fails}
use Rattle.mat_check.proofs.sets.unions.union_failure.Goals as goal

pub returns-in-Some : goal.returns-in-Some
returns-in-Some g c =
    union_overlaps (map g.M.Matroid.indep c.args.matroids.now) c.args.weights.now c.args.parts.now c.args.printed c.args.levels.now
    c.in-Some.failure (sym c.overlap_failure.ensures ∙ c.in-Some.is)

pub returns-in-Some-2 : goal.returns-in-Some-2
returns-in-Some-2 g c =
    part_depends (map g.M.Matroid.indep c.args.matroids.now) c.args.weights.now c.args.parts.now c.args.printed c.args.levels.now
    (sym c.overlap_failure.ensures ∙ c.in_default.is) c.in-Some-2.failure (sym c.in_ok-failure.ensures ∙ c.in-Some-2.is)

pub is_weight_of-requires-clause-set : goal.is_weight_of-requires-clause-set
is_weight_of-requires-clause-set g c =
    subst (IsSet (length c.args.weights.now)) (sym c.in_ok-all.ensures)
    (IsSet-family_union (length c.args.weights.now) c.args.parts.now c.requires.ranged.parts_in_range.each)

pub returns-then-not-is_weight_of : goal.returns-then-not-is_weight_of
returns-then-not-is_weight_of g c =
    rw c.at.ensures (weight_fails (map g.M.Matroid.indep c.args.matroids.now) c.args.weights.now c.args.parts.now c.args.printed
    c.args.levels.now (sym c.overlap_failure.ensures ∙ c.in_default.is) (sym c.in_ok-failure.ensures ∙ c.in_default-2.is)
    (sym (rw c.in_ok-all.ensures at c.is_weight_of.ensures) ∙ c.if-not-is_weight_of.true))

pub returns : goal.returns
returns g c =
    IfOk-weaker c.levels_failure.result _ _ (λ found h. h ∙ levels_are_left (map g.M.Matroid.indep c.args.matroids.now) c.args.weights.now
    c.args.parts.now c.args.printed c.args.levels.now (sym c.overlap_failure.ensures ∙ c.in_default.is)
    (sym c.in_ok-failure.ensures ∙ c.in_default-2.is) (sym (rw c.in_ok-all.ensures at c.is_weight_of.ensures) ∙ c.if-not-is_weight_of.false))
    c.levels_failure.ensures
