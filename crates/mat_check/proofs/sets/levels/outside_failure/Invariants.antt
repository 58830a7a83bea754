-- No clause of a member so far fails.
use Rattle.mat_check.proofs.Common.{outside_clause}
use Rattle.mat_check.proofs.NumberedFailures.{IsClear}
use Rattle.mat_check.proofs.sets.levels.outside_failure.Given as goal

abbrev pub invariant-loop-e : goal.invariant-loop-e
invariant-loop-e l = IsClear (outside_clause l.weights l.j l.level) l.level.cut l.e-index
