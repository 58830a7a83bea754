-- No set so far is dependent.
use Rattle.mat_check.proofs.NumberedFailures.{IsPassed}
use Rattle.mat_check.proofs.RightPackings.{set_clauses}
use Rattle.mat_check.proofs.sets.coverings.sets_failure.Given as goal

abbrev pub invariant-loop-i : goal.invariant-loop-i
invariant-loop-i g l = IsPassed (set_clauses (g.M.Matroid.indep l.m)) l.sets l.i
