use Rattle.mat_check.proofs.Common.{sym, ◌∙◌}
use Rattle.mat_check.proofs.NumberedFailures.{fails_at, passed_next}
use Rattle.mat_check.proofs.RightPackings.{set_clauses}
use Rattle.mat_check.proofs.sets.coverings.sets_failure.Goals as goal

pub returns-in-Some : goal.returns-in-Some
returns-in-Some g c =
    fails_at (set_clauses (g.M.Matroid.indep c.args.m.now)) c.args.sets.now c.loop-i.i c.index-sets-i.result
    c.loop-i-test.true c.index-sets-i.is c.loop-i.invariant c.in-Some.failure (sym c.in_ok-failure.ensures ∙ c.in-Some.is)

pub loop-i-preserved : goal.loop-i-preserved
loop-i-preserved g c =
    passed_next (set_clauses (g.M.Matroid.indep c.args.m.now)) c.args.sets.now c.loop-i.i c.index-sets-i.result
    c.loop-i-test.true c.index-sets-i.is c.loop-i.invariant (sym c.in_ok-failure.ensures ∙ c.in_default.is)
