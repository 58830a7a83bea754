-- No clause of a level so far fails.
use Rattle.mat_check.proofs.Common.{length, map, level_clauses}
use Rattle.mat_check.proofs.NumberedFailures.{IsPassed}
use Rattle.mat_check.proofs.sets.levels.levels_failure.Given as goal

abbrev pub invariant-loop-j : goal.invariant-loop-j
invariant-loop-j g l =
    IsPassed (level_clauses (length l.joined.weights.now)
    (map g.M.Matroid.indep l.joined.matroids.now) l.joined.weights.now l.joined.parts.now) l.levels l.j
