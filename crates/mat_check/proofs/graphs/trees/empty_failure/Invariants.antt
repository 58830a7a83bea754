-- No class before this is empty.
use Rattle.mat_check.proofs.Common.{[], ◌∷◌, some_clause}
use Rattle.mat_check.proofs.NumberedFailures.{IsPassed}
use Rattle.mat_check.proofs.graphs.trees.empty_failure.Given as goal

abbrev pub invariant-loop-i : goal.invariant-loop-i
invariant-loop-i l = IsPassed (λ i class. some_clause i class ∷ []) l.classes l.i
