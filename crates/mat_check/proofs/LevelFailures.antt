-- The first failure of a level whose weight is told to be right: that of the members of its cut, and then the cut itself. The weight is told of a
-- list that is that of the falling weights, and the cut of a set that is the union of the parts.
use Rattle.mat_check.proofs.Common.{◌≡◌, ◌+◌, ◌==◌, ℕ, Bool, true, false, List, [], ◌∷◌, ◌++◌, length, map, Some, None, ap, sym, ◌∙◌, falling_weights, heavy, family_union, intersection, minus, is_same, weight_at, Weight, ranks_sum, LevelLine, Clause, Failure, first_failure, level_clause}
use Rattle.mat_check.proofs.Common.{level_clauses, level_cut_clause, outside_clause}
use Rattle.mat_check.proofs.FailingClauses.{first_in_front, first_of_holding}
use Rattle.mat_check.proofs.JoinedClauses.{end_fails, end_holds}

module _ (tests : List (List ℕ → Bool)) (w : List Weight) (parts : List (List ℕ)) (j : ℕ) (level : LevelLine) (falling : List Weight)
    (is : falling ≡ falling_weights w) (same : is_same level.at (weight_at falling j) ≡ true) where
  abbrev front : List Clause
  front = map (outside_clause w j level) level.cut

  abbrev end : Clause
  end = level_cut_clause (length w) tests w parts j level

  behind_weight : first_failure (level_clauses (length w) tests w parts j level) ≡ first_failure (front ++ end ∷ [])
  behind_weight =
      first_of_holding (level_clause w j level) (front ++ end ∷ []) (ap (λ ws. is_same level.at (weight_at ws j)) (sym is) ∙ same)

  pub level_fails_inside : (failure : Failure) → first_failure front ≡ Some failure
      → Some failure ≡ first_failure (level_clauses (length w) tests w parts j level)
  level_fails_inside failure found = sym (behind_weight ∙ first_in_front front (end ∷ []) failure found)

  module _ (all : List ℕ) (joined : all ≡ family_union parts) (none : first_failure front ≡ None) where
    abbrev filled : Bool
    filled = length (intersection all (heavy (length w) w level.at)) == length (minus (heavy (length w) w level.at) level.cut) + ranks_sum tests level.cut

    told : end.holds ≡ filled
    told = ap (λ set. length (intersection set (heavy (length w) w level.at))
        == length (minus (heavy (length w) w level.at) level.cut) + ranks_sum tests level.cut) (sym joined)

    pub level_fails : filled ≡ false → Some end.failure ≡ first_failure (level_clauses (length w) tests w parts j level)
    level_fails h = end_fails front end none (told ∙ h) ∙ sym behind_weight

    pub level_is_clear : filled ≡ true → None ≡ first_failure (level_clauses (length w) tests w parts j level)
    level_is_clear h = end_holds front end none (told ∙ h) ∙ sym behind_weight
