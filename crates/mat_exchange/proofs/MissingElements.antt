-- Which rows are missing from one independent set to the next, and that all others stay: a member of both has no exchanges at either, and an element
-- that could not be added and could be exchanged only for members of the next set can be exchanged for the same ones there. Of the missing ones only
-- the lost rows were written down.
use Rattle.mat_exchange.proofs.Common.{◌≡◌, ℕ, ◌<◌, Bool, true, false, ◌||◌, List, [], inl, inr, subst, sym, ap, ◌∙◌, arith, cases_Bool, cases_lt, both_ways, cond-false, cond-true, false_from_ne_true, true_from_ne_false, is_member, minus, with_one, below_member, set_members, row_of, rows_of}
use Rattle.mat_exchange.proofs.Common.{IsMatroid, exchanges_in, row_in, Exchange, AreLost, written}
use Rattle.mat_laws.proofs.KeptCircuits.{row_kept}
use Rattle.mat_exchange.proofs.RowExchanges.{IsTableAt-rows_of, row_in-past, row_in-rows_of}

-- ---- steps about members

both_or_none : (x : ℕ) (set next : List ℕ) → is_member x (minus next set) ≡ false → is_member x (minus set next) ≡ false
    → is_member x set ≡ is_member x next
both_or_none x set next came left = grind (arith, set_members)

has_left : (y : ℕ) (set next : List ℕ) → is_member y set ≡ true → is_member y next ≡ false → is_member y (minus set next) ≡ true
has_left y set next m out = grind (arith, set_members)

was_member : (x : ℕ) (set next : List ℕ) → is_member x (minus set next) ≡ true → is_member x set ≡ true
was_member x set next m = grind (arith, set_members)

-- ---- the rows of all others

-- what is known of the missing rows, where a table has the rows at I: the lost ones and those of what could be added are among them, of the others
-- among them none is written down, and all that are not missing are the rows at J too
pub record IsReopened (n : ℕ) (p : List ℕ → Bool) (J lost missing : List ℕ) (before : List Exchange) : Type 0 where
  pub lost_missing : (x : ℕ) → is_member x lost ≡ true → is_member x missing ≡ true
  pub added_missing : (x : ℕ) → (exchanges_in before).adds x ≡ true → is_member x missing ≡ true
  pub others_bare : (x : ℕ) → is_member x missing ≡ true → is_member x lost ≡ false → written (row_in before x) ≡ []
  pub rows_stay : (x : ℕ) → is_member x missing ≡ false → row_in (rows_of n p J) x ≡ row_in before x

module _ {n : ℕ} {p : List ℕ → Bool} (laws : IsMatroid n p) (I J lost missing : List ℕ) (i : p I ≡ true) (j : p J ≡ true)
    (loses : AreLost (exchanges_in (rows_of n p I)) (minus J I) (minus I J) lost)
    (all : (x : ℕ) → is_member x missing
    ≡ (is_member x (minus J I) || is_member x (minus I J) || is_member x lost || (exchanges_in (rows_of n p I)).adds x)) where
  lost_missing : (x : ℕ) → is_member x lost ≡ true → is_member x missing ≡ true
  lost_missing x l = let a = all x in grind arith

  added_missing : (x : ℕ) → (exchanges_in (rows_of n p I)).adds x ≡ true → is_member x missing ≡ true
  added_missing x l = let a = all x in grind arith

  not_added : (x : ℕ) → is_member x missing ≡ false → (exchanges_in (rows_of n p I)).adds x ≡ false
  not_added x out = false_from_ne_true _ (λ a. both_ways _ out (added_missing x a))

  stays_inside : (x : ℕ) → is_member x missing ≡ false → is_member x I ≡ is_member x J
  stays_inside x out = let a = all x in both_or_none x I J (grind arith) (grind arith)

  row_stays : (x : ℕ) → x < n → is_member x missing ≡ false → row_of p J x ≡ row_of p I x
  row_stays x small out = elim (cases_Bool (is_member x I)) [
    | inl m ↦ cond-true (is_member x J) _ _ (sym (stays_inside x out) ∙ m) ∙ sym (cond-true (is_member x I) _ _ m)
    | inr o ↦ (let told = row_in-rows_of n p I x small in
        let none = not_added x out in
        let fails : p (with_one I x) ≡ false = sym (ap (λ (r : Exchange). r.addable) (cond-false (is_member x I) _ _ o))
        ∙ ap (λ (r : Exchange). r.addable) (sym told) ∙ none in
        row_kept laws I J x i j o (sym (stays_inside x out) ∙ o) fails (record {
          inside = λ y m.
              let trades : is_member y (row_in (rows_of n p I) x).with ≡ true = ap (λ (r : Exchange). is_member y r.with) told ∙ m in
              true_from_ne_false _ (λ gone. both_ways _ out
              (lost_missing x (loses.left_lost y x (has_left y I J ((IsTableAt-rows_of laws I i).member y x trades) gone) none trades)));
        }))
  ]

  rows_stay : (x : ℕ) → is_member x missing ≡ false → row_in (rows_of n p J) x ≡ row_in (rows_of n p I) x
  rows_stay x out = elim (cases_lt x n) [
    | inl l ↦ row_in-rows_of n p J x l ∙ row_stays x l out ∙ sym (row_in-rows_of n p I x l)
    | inr g ↦ row_in-past n p J x g ∙ sym (row_in-past n p I x g)
  ]

  -- nothing is written down of the row of a member
  member_bare : (x : ℕ) → is_member x I ≡ true → written (row_in (rows_of n p I) x) ≡ []
  member_bare x m =
      let same = row_in-rows_of n p I x (below_member (laws.sets I i) m) ∙ cond-true (is_member x I) _ _ m in
      ap written same

  others_bare : (x : ℕ) → is_member x missing ≡ true → is_member x lost ≡ false → written (row_in (rows_of n p I) x) ≡ []
  others_bare x m out = elim (cases_Bool (row_in (rows_of n p I) x).addable) [
    | inl adds ↦ cond-true (row_in (rows_of n p I) x).addable [] (row_in (rows_of n p I) x).with adds
    | inr none ↦ elim (cases_Bool (is_member x (minus I J))) [
      | inl left ↦ member_bare x (was_member x I J left)
      | inr stays ↦ (let a = all x in
          let came : is_member x (minus J I) ≡ true = grind arith in
          absurd (both_ways _ out (loses.came_lost x came none)))
    ]
  ]

  at_rows : IsReopened n p J lost missing (rows_of n p I)
  at_rows = record { lost_missing = lost_missing; added_missing = added_missing; others_bare = others_bare; rows_stay = rows_stay }

-- the elements that come to I and those that leave it, by their lists, and the table that has the rows at I
pub rows_reopened : {n : ℕ} {p : List ℕ → Bool} → IsMatroid n p → (I J lost missing came left : List ℕ) (before : List Exchange) → p I ≡ true → p J ≡ true
    → before ≡ rows_of n p I → came ≡ minus J I → left ≡ minus I J → AreLost (exchanges_in before) came left lost
    → ((x : ℕ) → is_member x missing ≡ (is_member x came || is_member x left || is_member x lost || (exchanges_in before).adds x))
    → IsReopened n p J lost missing before
rows_reopened {n} {p} laws I J lost missing came left before i j table_is came_is left_is loses all =
    subst (λ (table : List Exchange). AreLost (exchanges_in table) came left lost
    → ((x : ℕ) → is_member x missing ≡ (is_member x came || is_member x left || is_member x lost || (exchanges_in table).adds x))
    → IsReopened n p J lost missing table) (sym table_is) (λ loses all.
    at_rows laws I J lost missing i j
    (subst (λ (set : List ℕ). AreLost (exchanges_in (rows_of n p I)) set (minus I J) lost) came_is
    (subst (λ (set : List ℕ). AreLost (exchanges_in (rows_of n p I)) came set lost) left_is loses))
    (λ x. all x ∙ ap (λ (set : List ℕ). is_member x set || is_member x left || is_member x lost || (exchanges_in (rows_of n p I)).adds x) came_is
    ∙ ap (λ (set : List ℕ). is_member x (minus J I) || is_member x set || is_member x lost || (exchanges_in (rows_of n p I)).adds x) left_is)) loses all
