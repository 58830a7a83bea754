-- No part so far is dependent.
use Rattle.mat_check.proofs.Common.{[], ◌∷◌, map, test_at, independent_clause}
use Rattle.mat_check.proofs.NumberedFailures.{IsPassed}
use Rattle.mat_check.proofs.sets.unions.parts_failure.Given as goal

abbrev pub invariant-loop-i : goal.invariant-loop-i
invariant-loop-i g l = IsPassed (λ i part. independent_clause (test_at (map g.M.Matroid.indep l.matroids) i) i part ∷ []) l.parts l.i
