-- Each set so far is a base.
use Rattle.mat_check.proofs.NumberedFailures.{IsPassed}
use Rattle.mat_check.proofs.RightPackings.{base_clauses}
use Rattle.mat_check.proofs.sets.packings.bases_failure.Given as goal

abbrev pub invariant-loop-i : goal.invariant-loop-i
invariant-loop-i g l = IsPassed (base_clauses (g.M.Matroid.ground_size l.m) (g.M.Matroid.indep l.m)) l.bases l.i
