-- No two sets of a family on n elements share a member exactly where each element below n stands in at most one, as no other number stands
-- in any. The clauses of families hold where their sentences do.
use Rattle.mat_check.proofs.Common.{ℕ, ◌<◌, ◌≤◌, List, inl, inr, sym, ◌∙◌, arith, cases_lt, le-leb, leb-true, lt-ltb, ltb-true, AreDisjoint, multiplicity, all_below, IsSet, is_member-all_below, multiplicity-past, missed_clauses, overlap_clauses}
use Rattle.std.specs.List.{All}
use Rattle.mat_check.proofs.FirstFailures.{AllHold, AllHold-at, AllHold-map}
use Rattle.mat_check.proofs.Multiplicities.{missed_clause, overlap_clause}

module _ (n : ℕ) (sets : List (List ℕ)) where
  -- ---- at most one

  pub none_overlaps : ((x : ℕ) → x < n → multiplicity x sets ≤ 1) → AllHold (overlap_clauses n sets)
  none_overlaps once = AllHold-map (overlap_clause sets) (all_below n)
      (λ x m. le-leb (multiplicity x sets) 1 (once x (ltb-true x n (sym (is_member-all_below x n) ∙ m))))

  pub overlap_none : AllHold (overlap_clauses n sets) → (x : ℕ) → x < n → multiplicity x sets ≤ 1
  overlap_none h x small =
      leb-true (multiplicity x sets) 1 (AllHold-at (overlap_clause sets) (all_below n) h x (is_member-all_below x n ∙ lt-ltb x n small))

  pub disjoint_where_none_overlaps : All (IsSet n) sets → AllHold (overlap_clauses n sets) → AreDisjoint sets
  disjoint_where_none_overlaps ranged h = record {
    once = λ x. elim (cases_lt x n) [
      | inl small ↦ overlap_none h x small
      | inr past ↦ (let none = multiplicity-past n x sets past ranged in omega arith)
    ];
  }

  -- ---- at least one

  pub none_missed : ((x : ℕ) → x < n → 0 < multiplicity x sets) → AllHold (missed_clauses n sets)
  none_missed some = AllHold-map (missed_clause sets) (all_below n)
      (λ x m. lt-ltb 0 (multiplicity x sets) (some x (ltb-true x n (sym (is_member-all_below x n) ∙ m))))

  pub missed_none : AllHold (missed_clauses n sets) → (x : ℕ) → x < n → 0 < multiplicity x sets
  missed_none h x small =
      ltb-true 0 (multiplicity x sets) (AllHold-at (missed_clause sets) (all_below n) h x (is_member-all_below x n ∙ lt-ltb x n small))
