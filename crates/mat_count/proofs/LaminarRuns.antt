-- Greedy runs of laminar matroids: a new element fits exactly where none of the places that the table has for it is that of a full set.
use Rattle.mat_count.proofs.Common.{◌≡◌, ℕ, ◌+◌, ◌<◌, true, false, not, eqb, List, [], length, get_or, sym, ap, ◌∙◌, not-true, is_member, with_one, indicator, is_counted, IsPlaceTable, is_full}
use Rattle.std.specs.List.{filter}
use Rattle.mat_count.proofs.ClassRows.{IsOutside-from_test}
use Rattle.mat_count.proofs.CountedRuns.{IsCounting, IsCounting-passed, IsCounting-entered}
use Rattle.mat_count.proofs.LaminarRows.{added_at}

module _ {n : ℕ} {sets : List (List ℕ)} {caps order set numbers : List ℕ} {i : ℕ} (c : IsCounting n sets caps order i set numbers)
    (capped : length caps ≡ length sets) (table : List (List ℕ)) (right : IsPlaceTable n sets table) (x : ℕ) (small : x < n)
    (inside : i < length order) (at : x ≡ get_or order i 0) (found after : List ℕ)
    (full : found ≡ filter (is_full caps numbers) (get_or table x [])) where
  fits : is_member x set ≡ false → eqb (length found) 0 ≡ is_counted n sets caps (with_one set x)
  fits new =
      ap (λ s. eqb (length s) 0) full ∙ added_at (IsOutside-from_test n sets caps set x capped small c.run.passes new) numbers c.counts table right

  -- an element that stands in a full set
  pub laminar_run-passed : eqb (length found) 0 ≡ false → after ≡ set → IsCounting n sets caps order (i + 1) after numbers
  laminar_run-passed some kept = IsCounting-passed c x after inside at (λ new. sym (fits new) ∙ some) kept

  -- a new one that stands in none
  pub laminar_run-entered : (numbers' : List ℕ) → eqb (length found) 0 ≡ true → not (is_member x set) ≡ true → after ≡ with_one set x
      → length numbers' ≡ length numbers
      → ((k : ℕ) → k < length numbers → get_or numbers' k 0 ≡ get_or numbers k 0 + indicator (is_member k (get_or table x [])))
      → IsCounting n sets caps order (i + 1) after numbers'
  laminar_run-entered numbers' none fresh put long more =
      let new = not-true (is_member x set) fresh in
      IsCounting-entered c x after numbers' inside at new (sym (fits new) ∙ none) put long
      (λ k l. more k l ∙ ap (λ b. get_or numbers k 0 + indicator b) (right.right x k small))
