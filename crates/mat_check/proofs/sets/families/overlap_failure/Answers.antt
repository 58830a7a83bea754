use Rattle.mat_check.proofs.Common.{sym, ◌∙◌}
use Rattle.mat_check.proofs.FailingClauses.{none_below_none, none_below_next, first_below}
use Rattle.mat_check.proofs.Multiplicities.{overlap_clause}
use Rattle.mat_check.proofs.sets.families.overlap_failure.Goals as goal

pub loop-e-init : goal.loop-e-init
loop-e-init c = none_below_none (overlap_clause c.args.sets.now)

pub returns-then-not-is_apart : goal.returns-then-not-is_apart
returns-then-not-is_apart c =
    rw c.at.ensures (sym (first_below (overlap_clause c.args.sets.now) _ c.loop-e.e c.loop-e-test.true c.loop-e.invariant
    (sym c.is_apart.ensures ∙ c.if-not-is_apart.true)))

pub loop-e-preserved : goal.loop-e-preserved
loop-e-preserved c =
    none_below_next (overlap_clause c.args.sets.now) c.loop-e.e c.loop-e.invariant (sym c.is_apart.ensures ∙ c.if-not-is_apart.false)
