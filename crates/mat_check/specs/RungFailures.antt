-- The first failures of the rungs of an answer, one rung after another.
use Rattle.std.specs.Prelude.{ℕ, suc, List, [], ◌∷◌, Option, Some, None}
use Rattle.mat_check.specs.Clauses.{Clause, Failure, first_failure}

-- for each rung its first clause that fails, or none; the first is rung k
abbrev pub rungs_failures : {R : Type 0} → (ℕ → R → List Clause) → ℕ → List R → List (Option Failure)
rungs_failures clauses_of_rung k [] = []
rungs_failures clauses_of_rung k (rung ∷ rungs) = first_failure (clauses_of_rung k rung) ∷ rungs_failures clauses_of_rung (suc k) rungs

-- the first failure in the order of the rungs
abbrev pub first_in_order : List (Option Failure) → Option Failure
first_in_order [] = None
first_in_order (None ∷ failures) = first_in_order failures
first_in_order (Some failure ∷ failures) = Some failure
