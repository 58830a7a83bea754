-- The first failure of a split: that of the sums of its two halves, or that a heavier set is there under the first half or under the second.
use Rattle.mat_check.proofs.Common.{◌≡◌, ℕ, Bool, true, false, not, List, [], ◌∷◌, ◌++◌, Some, None, ap, sym, ◌∙◌, weight_at, Weight, is_beaten, Clause, Failure, first_failure, heaviest_clause}
use Rattle.mat_check.proofs.FailingClauses.{first_in_back, first_in_front, first_of_failing, first_of_holding}

module _ (sums : List Clause) (n : ℕ) (p q : List ℕ → Bool) (first second : List Weight) (k : ℕ) (set : List ℕ) where
  abbrev in_first : Clause
  in_first = heaviest_clause n p first 0 k set

  abbrev in_second : Clause
  in_second = heaviest_clause n q second 1 k set

  abbrev clauses : List Clause
  clauses = sums ++ in_first ∷ in_second ∷ []

  pub sum_fails : (failure : Failure) → first_failure sums ≡ Some failure → Some failure ≡ first_failure clauses
  sum_fails failure found = sym (first_in_front sums (in_first ∷ in_second ∷ []) failure found)

  module _ (none : first_failure sums ≡ None) where
    pub first_beats : is_beaten n p (weight_at first) set ≡ true → Some in_first.failure ≡ first_failure clauses
    first_beats h = sym (first_in_back sums (in_first ∷ in_second ∷ []) none ∙ first_of_failing in_first (in_second ∷ []) (ap not h))

    module _ (fair : is_beaten n p (weight_at first) set ≡ false) where
      only_second : first_failure clauses ≡ first_failure (in_second ∷ [])
      only_second = first_in_back sums (in_first ∷ in_second ∷ []) none ∙ first_of_holding in_first (in_second ∷ []) (ap not fair)

      pub second_beats : is_beaten n q (weight_at second) set ≡ true → Some in_second.failure ≡ first_failure clauses
      second_beats h = sym (only_second ∙ first_of_failing in_second [] (ap not h))

      pub none_beats : is_beaten n q (weight_at second) set ≡ false → None ≡ first_failure clauses
      none_beats h = sym (only_second ∙ first_of_holding in_second [] (ap not h))
