-- Greedy runs of partition matroids: a new element fits exactly where the class that the table names for it is not full, by the counters.
use Rattle.mat_count.proofs.Common.{◌≡◌, ℕ, ◌+◌, ◌<◌, true, false, not, eqb, List, [], length, get_or, Option, Some, None, inl, inr, refl, sym, ap, ◌∙◌, subst, arith, ⊤, MatchOption, not-true, cases_eq, cases_lt, both_ways, eq-eqb, ne_eqb, le-leb, lt-leb, is_member, with_one, intersection}
use Rattle.mat_count.proofs.Common.{indicator, is_named_full, is_counted, counted_more, names, IsClassTable, CountsMembers}
use Rattle.mat_count.proofs.ClassRows.{IsOutside, IsOutside-from_test, added_with_room, not_counted}
use Rattle.mat_count.proofs.ClassTables.{named-inside}
use Rattle.mat_count.proofs.CountedRuns.{IsCounting, IsCounting-passed, IsCounting-entered}

-- what the table names is a class
named_at : (n : ℕ) (classes : List (List ℕ)) (table : List (Option ℕ)) (x : ℕ) → x < n → IsClassTable n classes table → (entry : Option ℕ)
    → get_or table x None ≡ entry → MatchOption entry ⊤ (λ place. place < length classes)
named_at n classes table x small right None is = tt
named_at n classes table x small right (Some place) is = named-inside n classes table x place small right is

pub entry_known : (n : ℕ) (classes : List (List ℕ)) (table : List (Option ℕ)) (x : ℕ) → x < n → IsClassTable n classes table
    → MatchOption (get_or table x None) ⊤ (λ place. place < length classes)
entry_known n classes table x small right = named_at n classes table x small right (get_or table x None) refl

module _ {n : ℕ} {classes : List (List ℕ)} {caps I : List ℕ} {x : ℕ} (o : IsOutside n classes caps I x) (numbers : List ℕ)
    (counts : CountsMembers classes I numbers) (table : List (Option ℕ)) (right : IsClassTable n classes table) where
  pub fits_beside : (entry : Option ℕ) → get_or table x None ≡ entry
      → is_counted n classes caps (with_one I x) ≡ not (is_named_full caps numbers entry)
  fits_beside None is = added_with_room o (λ i l h.
      absurd (both_ways (is_member x (get_or classes i [])) (sym (right.right x i o.small) ∙ ap (λ entry. names entry i) is) h))
  fits_beside (Some place) is = elim (cases_lt (get_or numbers place 0) (get_or caps place 0)) [
    | inl room ↦ added_with_room o (λ i l h. elim (cases_eq place i) [
      | inl here ↦ subst (λ k. length (intersection I (get_or classes k [])) < get_or caps k 0) here (omega (arith, counts.at place listed, room))
      | inr other ↦ absurd (both_ways (eqb place i) (ne_eqb place i other) (sym (stands i) ∙ h))
    ]) ∙ ap not (sym (lt-leb (get_or caps place 0) (get_or numbers place 0) room))
    | inr full ↦ (
        let more = counted_more (get_or classes place []) I x o.set.rising o.outside (stands place ∙ eq-eqb place place refl) in
        let most : get_or caps place 0 < length (intersection (with_one I x) (get_or classes place [])) = omega (arith, counts.at place listed, full) in
        not_counted n classes caps (with_one I x) place o.same listed most ∙ ap not (sym (le-leb (get_or caps place 0) (get_or numbers place 0) full)))
  ]
    where
      listed : place < length classes
      listed = named-inside n classes table x place o.small right is

      stands : (i : ℕ) → is_member x (get_or classes i []) ≡ eqb place i
      stands i = sym (right.right x i o.small) ∙ ap (λ entry. names entry i) is

module _ {n : ℕ} {classes : List (List ℕ)} {caps order set numbers : List ℕ} {i : ℕ} (c : IsCounting n classes caps order i set numbers)
    (capped : length caps ≡ length classes) (table : List (Option ℕ)) (right : IsClassTable n classes table) (x : ℕ) (small : x < n)
    (inside : i < length order) (at : x ≡ get_or order i 0) (entry : Option ℕ) (is : get_or table x None ≡ entry) (after : List ℕ) where
  fits : is_member x set ≡ false → is_counted n classes caps (with_one set x) ≡ not (is_named_full caps numbers entry)
  fits new = fits_beside (IsOutside-from_test n classes caps set x capped small c.run.passes new) numbers c.counts table right entry is

  -- an element of a full class
  pub partition_run-passed : is_named_full caps numbers entry ≡ true → after ≡ set
      → IsCounting n classes caps order (i + 1) after numbers
  partition_run-passed full kept = IsCounting-passed c x after inside at (λ new. fits new ∙ ap not full) kept

  -- a new one of a class that is not full, or of none
  pub partition_run-entered : (numbers' : List ℕ) → is_named_full caps numbers entry ≡ false → not (is_member x set) ≡ true
      → after ≡ with_one set x → length numbers' ≡ length numbers
      → ((k : ℕ) → k < length numbers → get_or numbers' k 0 ≡ get_or numbers k 0 + indicator (names entry k))
      → IsCounting n classes caps order (i + 1) after numbers'
  partition_run-entered numbers' room fresh put long more =
      let new = not-true (is_member x set) fresh in
      IsCounting-entered c x after numbers' inside at new (fits new ∙ ap not room) put long
      (λ k l. more k l ∙ ap (λ b. get_or numbers k 0 + indicator b) (sym (ap (λ e. names e k) is) ∙ right.right x k small))
