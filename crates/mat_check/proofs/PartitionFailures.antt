-- The first clause of a partition that fails, by the four kinds of its clauses: the first kind that has one tells it.
use Rattle.mat_check.proofs.Common.{◌≡◌, ℕ, ◌<◌, ◌≤◌, ◌-◌, ◌*◌, List, [], ◌∷◌, ◌++◌, length, Some, None, sym, ◌∙◌, le-ltb, lt-ltb, crossing, first_failure, numbered_clauses, Clause, Failure, failure_at, missed_clauses, overlap_clauses, crossing_clause, partition_clauses, some_clause}
use Rattle.mat_check.specs.declared.reason.Reason.TheVariants as reasons
use Rattle.mat_check.proofs.FailingClauses.{first_in_back, first_in_front, first_of_failing, first_of_holding}

module _ (vertices count : ℕ) (ends : ℕ → ℕ × ℕ) (k : ℕ) (classes : List (List ℕ)) where
  abbrev overlaps : List Clause
  overlaps = overlap_clauses vertices classes

  abbrev filled : List Clause
  filled = numbered_clauses (λ i class. some_clause i class ∷ []) 0 classes

  abbrev misses : List Clause
  misses = missed_clauses vertices classes

  abbrev few : List Clause
  few = crossing_clause count ends k classes ∷ []

  pub overlap_found : (failure : Failure) → first_failure overlaps ≡ Some failure
      → Some failure ≡ first_failure (partition_clauses vertices count ends k classes)
  overlap_found failure found =
      sym (first_in_front (overlaps ++ filled ++ misses) few failure
      (first_in_front (overlaps ++ filled) misses failure (first_in_front overlaps filled failure found)))

  module _ (apart : first_failure overlaps ≡ None) where
    pub empty_found : (failure : Failure) → first_failure filled ≡ Some failure
        → Some failure ≡ first_failure (partition_clauses vertices count ends k classes)
    empty_found failure found =
        sym (first_in_front (overlaps ++ filled ++ misses) few failure
        (first_in_front (overlaps ++ filled) misses failure (first_in_back overlaps filled apart ∙ found)))

    module _ (some : first_failure filled ≡ None) where
      pub missed_found : (failure : Failure) → first_failure misses ≡ Some failure
          → Some failure ≡ first_failure (partition_clauses vertices count ends k classes)
      missed_found failure found =
          sym (first_in_front (overlaps ++ filled ++ misses) few failure
          (first_in_back (overlaps ++ filled) misses (first_in_back overlaps filled apart ∙ some) ∙ found))

      module _ (all : first_failure misses ≡ None) where
        last : first_failure (partition_clauses vertices count ends k classes) ≡ first_failure few
        last = first_in_back (overlaps ++ filled ++ misses) few
            (first_in_back (overlaps ++ filled) misses (first_in_back overlaps filled apart ∙ some) ∙ all)

        pub crossing_found : k * (length classes - 1) ≤ length (crossing count ends classes)
            → Some (failure_at reasons.Crossing 0 0) ≡ first_failure (partition_clauses vertices count ends k classes)
        crossing_found many =
            sym (last ∙ first_of_failing (crossing_clause count ends k classes) []
            (le-ltb (length (crossing count ends classes)) (k * (length classes - 1)) many))

        pub none_found : length (crossing count ends classes) < k * (length classes - 1)
            → None ≡ first_failure (partition_clauses vertices count ends k classes)
        none_found less =
            sym (last ∙ first_of_holding (crossing_clause count ends k classes) []
            (lt-ltb (length (crossing count ends classes)) (k * (length classes - 1)) less))
