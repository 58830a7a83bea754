-- The first failure of a union: overlaps, the parts one by one, the weight, the levels. It is the first of one of these where none before it fails.
use Rattle.mat_check.proofs.Common.{◌≡◌, ℕ, Bool, true, false, List, ◌∷◌, length, Some, None, Weight, LevelLine, Clause, Failure, first_failure, overlap_clauses, union_clauses}
use Rattle.mat_check.proofs.JoinedClauses.{in_first, in_second, third_begins, third_fails}
use Rattle.mat_check.proofs.RightUnions.{all_levels, all_parts, weight_clause}

module _ (tests : List (List ℕ → Bool)) (w : List Weight) (parts : List (List ℕ)) (printed : Weight) (levels : List LevelLine) where
  abbrev overlaps : List Clause
  overlaps = overlap_clauses (length w) parts

  abbrev dependents : List Clause
  dependents = all_parts (length w) tests w parts printed levels

  abbrev priced : Clause
  priced = weight_clause (length w) tests w parts printed levels

  abbrev filled : List Clause
  filled = all_levels (length w) tests w parts printed levels

  abbrev clauses : List Clause
  clauses = union_clauses (length w) tests w printed parts levels

  pub union_overlaps : (failure : Failure) → first_failure overlaps ≡ Some failure → Some failure ≡ first_failure clauses
  union_overlaps failure found = in_first overlaps dependents (priced ∷ filled) failure found

  module _ (none : first_failure overlaps ≡ None) where
    pub part_depends : (failure : Failure) → first_failure dependents ≡ Some failure → Some failure ≡ first_failure clauses
    part_depends failure found = in_second overlaps dependents (priced ∷ filled) failure none found

    pub weight_fails : first_failure dependents ≡ None → priced.holds ≡ false → Some priced.failure ≡ first_failure clauses
    weight_fails nothing h = third_fails overlaps dependents priced filled none nothing h

    pub levels_are_left : first_failure dependents ≡ None → priced.holds ≡ true → first_failure filled ≡ first_failure clauses
    levels_are_left nothing h = third_begins overlaps dependents priced filled none nothing h
