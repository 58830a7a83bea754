-- The clauses of the items of a list, place by place: all hold exactly where those at each place do, and a walk along the places finds the
-- first that fails, since what is left of the list tells it as long as none has failed.
use Rattle.mat_check.proofs.Common.{◌≡◌, ℕ, ◌+◌, suc, ◌<◌, List, ◌++◌, length, get_or, map, drop, Some, None, sym, subst, ap, ◌∙◌, arith, drop_more, get_or_from_slice_get, slice_get-get_or, slice_get_within, Clause, Failure, first_failure, numbered_clauses}
use Rattle.mat_check.proofs.FailingClauses.{first_in_back, first_in_front}
use Rattle.mat_check.proofs.FirstFailures.{AllHold, each_rung_holds, all_rungs_hold}

module _ {R : Type 0} (clauses_of_item : ℕ → R → List Clause) (items : List R) where
  -- ---- all hold

  module _ (default : R) where
    pub each_holds : AllHold (numbered_clauses clauses_of_item 0 items) → (i : ℕ) → i < length items
        → AllHold (clauses_of_item i (get_or items i default))
    each_holds h i inside = each_rung_holds clauses_of_item items h i (get_or items i default) (slice_get-get_or items i default inside)

    pub all_items_hold : ((i : ℕ) → i < length items → AllHold (clauses_of_item i (get_or items i default)))
        → AllHold (numbered_clauses clauses_of_item 0 items)
    all_items_hold each = all_rungs_hold clauses_of_item items (λ i item at.
        subst (λ r. AllHold (clauses_of_item i r)) (get_or_from_slice_get items i item default at) (each i (slice_get_within items i item at)))

  -- ---- the first that fails

  -- none fails at a place before i
  abbrev pub IsPassed : ℕ → Type 0
  IsPassed i = first_failure (numbered_clauses clauses_of_item 0 items) ≡ first_failure (numbered_clauses clauses_of_item i (drop i items))

  module _ (i : ℕ) (item : R) (inside : i < length items) (at : item ≡ get_or items i item) (passed : IsPassed i) where
    rest_is : numbered_clauses clauses_of_item i (drop i items)
        ≡ clauses_of_item i item ++ numbered_clauses clauses_of_item (i + 1) (drop (i + 1) items)
    rest_is =
        let next : suc i ≡ i + 1 = omega arith in
        ap (numbered_clauses clauses_of_item i) (drop_more items i item inside)
        ∙ ap (λ r. clauses_of_item i r ++ numbered_clauses clauses_of_item (suc i) (drop (i + 1) items)) (sym at)
        ∙ ap (λ k. clauses_of_item i item ++ numbered_clauses clauses_of_item k (drop (i + 1) items)) next

    pub passed_next : first_failure (clauses_of_item i item) ≡ None → IsPassed (i + 1)
    passed_next none =
        passed ∙ ap first_failure rest_is
        ∙ first_in_back (clauses_of_item i item) (numbered_clauses clauses_of_item (i + 1) (drop (i + 1) items)) none

    pub fails_at : (failure : Failure) → first_failure (clauses_of_item i item) ≡ Some failure
        → Some failure ≡ first_failure (numbered_clauses clauses_of_item 0 items)
    fails_at failure found =
        sym (passed ∙ ap first_failure rest_is
        ∙ first_in_front (clauses_of_item i item) (numbered_clauses clauses_of_item (i + 1) (drop (i + 1) items)) failure found)

-- ---- a clause for each item

module _ {R : Type 0} (clause_of : R → Clause) (items : List R) where
  -- none fails at a place before i
  abbrev pub IsClear : ℕ → Type 0
  IsClear i = first_failure (map clause_of items) ≡ first_failure (map clause_of (drop i items))
