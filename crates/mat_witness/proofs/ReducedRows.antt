-- Rows that all meet the columns so far evenly, each with a one of its own: each column takes away at most one. Those that are left for a maximal
-- independent subset meet each column of the whole set evenly, as it is a sum of columns of the subset.
use Rattle.mat_witness.proofs.Common.{◌≡◌, ℕ, ◌+◌, ◌^◌, ◌<◌, ◌≤◌, true, false, not, cond, eqb, List, length, map, get_or, Option, Some, None, IfSome, IfNone, inl, inr, refl, sym, ap, ◌∙◌, subst, arith, cases_Bool, cases_lt, both_ways, and_from, and_parts, eq-eqb, eqb-true, eqb-false, is_member}
use Rattle.mat_witness.proofs.Common.{IsSet, all_below, with_one, is_set, below_member, is_member-get_or, members_by_place, some_below_from, IsSet-from_test, is_set-with_one, IsMaximal, is_linearly_independent, is_gf2, remainder, inner_product_is_one, meet_sum_evenly, are_zeros, has_own_one}
use Rattle.mat_witness.proofs.Common.{IsTaken}
use Rattle.std.specs.Int.{bit_at}
use Rattle.std.specs.List.{list_all}
use Rattle.mat_gf2.specs.SpanLaws.{in_span-from_remainder, test_with_one}
use Rattle.mat_witness.proofs.PassingLists.{passes_each, passes_below}
use Rattle.mat_witness.proofs.ColumnParts.{IsOwnPlace}
use Rattle.mat_witness.proofs.RowSteps.{EachRow, AreEven, HaveOwnPlaces, length-taken, stay_even, become_even, stay_below, keep_own_places, length-units, units_below, units_have_own_places}

-- the rows after the first i columns of a list
pub record AreReduced (dim : ℕ) (column : ℕ → ℕ) (inside : List ℕ) (i : ℕ) (rows : List ℕ) : Type 0 where
  pub below : EachRow (λ x. x < 2 ^ dim) rows
  pub own : HaveOwnPlaces dim rows
  pub even : (j : ℕ) → j < i → AreEven (column (get_or inside j 0)) rows
  pub few : length rows ≤ dim
  pub many : dim ≤ length rows + i

pub AreReduced-start : (dim : ℕ) (column : ℕ → ℕ) (inside rows : List ℕ) → rows ≡ map (λ place. 2 ^ place) (all_below dim)
    → AreReduced dim column inside 0 rows
AreReduced-start dim column inside rows units = let n = length-units dim rows units in record {
  below = units_below dim rows units;
  own = units_have_own_places dim rows units;
  even = λ j l. absurd (omega arith);
  few = omega arith;
  many = omega arith;
}

module _ (dim : ℕ) (column : ℕ → ℕ) (inside : List ℕ) (i : ℕ) (before after : List ℕ) (reduced : AreReduced dim column inside i before) where
  next_even : ((v : ℕ) → AreEven v before → AreEven v after) → AreEven (column (get_or inside i 0)) after
      → (j : ℕ) → j < i + 1 → AreEven (column (get_or inside j 0)) after
  next_even stay now j l = elim (cases_lt j i) [
    | inl old ↦ stay (column (get_or inside j 0)) (reduced.even j old)
    | inr h ↦ subst (λ k. AreEven (column (get_or inside k 0)) after) (let e : i ≡ j = omega arith in e) now
  ]

  pub AreReduced-taken : (row : ℕ) → IsTaken before (column (get_or inside i 0)) row after → AreReduced dim column inside (i + 1) after
  AreReduced-taken row taken =
      let v = column (get_or inside i 0) in
      let n = length-taken before v row after taken in
      let few = reduced.few in
      let many = reduced.many in
      record {
        below = stay_below before v row after taken dim reduced.below;
        own = keep_own_places before v row after taken dim reduced.own;
        even = next_even (stay_even before v row after taken) (become_even before v row after taken);
        few = omega arith;
        many = omega arith;
      }

  AreReduced-same : after ≡ before → AreEven (column (get_or inside i 0)) before → AreReduced dim column inside (i + 1) after
  AreReduced-same same none = let many = reduced.many in let n = ap length same in record {
    below = subst (EachRow (λ x. x < 2 ^ dim)) (sym same) reduced.below;
    own = subst (HaveOwnPlaces dim) (sym same) reduced.own;
    even = next_even (λ v. subst (AreEven v) (sym same)) (subst (AreEven (column (get_or inside i 0))) (sym same) none);
    few = subst (λ rows. length rows ≤ dim) (sym same) reduced.few;
    many = omega arith;
  }

  pub AreReduced-next : (found : Option ℕ) → IfSome found (λ row. IsTaken before (column (get_or inside i 0)) row after)
      → IfNone found (after ≡ before) → IfNone found (AreEven (column (get_or inside i 0)) before) → AreReduced dim column inside (i + 1) after
  AreReduced-next None taken same none = AreReduced-same same none
  AreReduced-next (Some row) taken same none = AreReduced-taken row taken

  -- told of the column as it was read
  pub AreReduced-read : (found : Option ℕ) (v : ℕ) → v ≡ column (get_or inside i 0) → IfSome found (λ row. IsTaken before v row after)
      → IfNone found (after ≡ before) → IfNone found (AreEven v before) → AreReduced dim column inside (i + 1) after
  AreReduced-read found v read taken same none =
      AreReduced-next found (subst (λ w. IfSome found (λ row. IsTaken before w row after)) read taken) same
      (subst (λ w. IfNone found (AreEven w before)) read none)

-- an item of an independent set has a column
pub item-below : (n : ℕ) (column : ℕ → ℕ) (inside items : List ℕ) (i : ℕ) → is_gf2 n column inside ≡ true → items ≡ inside → i < length items
    → get_or items i 0 < n
item-below n column inside items i passes same l =
    let set = IsSet-from_test n inside (and_parts (is_set n inside) (is_linearly_independent column inside) passes).0 in
    let long = ap length same in
    let x = get_or items i 0 in
    below_member set (is_member-get_or inside i x (omega arith) (ap (λ xs. get_or xs i 0) (sym same)))

-- ---- at the end

test_from-IsOwnPlace : (dim : ℕ) (rows : List ℕ) (i : ℕ) → IsOwnPlace dim (length rows) (λ j. get_or rows j 0) i → has_own_one dim rows i ≡ true
test_from-IsOwnPlace dim rows i own =
    some_below_from dim own.place _ own.within
    (passes_below (length rows) (λ j. eqb (bit_at (get_or rows j 0) own.place) (cond (eqb i j) 1 0)) (λ j l. eq-eqb _ _ (own.alone j l)))

module _ (n : ℕ) (column : ℕ → ℕ) (F inside : List ℕ) (set : IsSet n F) (maximal : IsMaximal (is_gf2 n column) F inside) (z : ℕ)
    (even : (j : ℕ) → j < length inside → inner_product_is_one z (column (get_or inside j 0)) ≡ false) where
  meets_inside : (x : ℕ) → is_member x inside ≡ true → inner_product_is_one z (column x) ≡ false
  meets_inside x m = members_by_place (λ x. inner_product_is_one z (column x) ≡ false) inside even x m

  -- each column of the whole set is a sum of columns of the subset
  meets_set : (e : ℕ) → is_member e F ≡ true → inner_product_is_one z (column e) ≡ false
  meets_set e m = elim (cases_Bool (is_member e inside)) [
    | inl here ↦ meets_inside e here
    | inr out ↦ elim (cases_Bool (eqb (remainder column inside (column e)) 0)) [
      | inl nothing ↦ (let span = in_span-from_remainder column inside (column e) (eqb-true _ _ nothing) in
          ap (inner_product_is_one z) (sym span.sum) ∙ meet_sum_evenly column z span.part (λ x k. meets_inside x (span.inside.inside x k)))
      | inr some ↦ absurd (let tests = and_parts (is_set n inside) (is_linearly_independent column inside) maximal.passes in
          let ground = IsSet-from_test n inside tests.0 in
          both_ways _ (maximal.full e m out)
          (and_from (is_set n (with_one inside e)) (is_linearly_independent column (with_one inside e))
          (is_set-with_one n inside e ground (below_member set m))
          (test_with_one column inside e ground.rising tests.1 (eqb-false _ _ some))))
    ]
  ]

pub reduced_are_zeros : (n dim : ℕ) (column : ℕ → ℕ) (F inside rows : List ℕ) → IsSet n F → IsMaximal (is_gf2 n column) F inside
    → AreReduced dim column inside (length inside) rows → are_zeros dim column rows F ≡ true
reduced_are_zeros n dim column F inside rows set maximal reduced =
    and_from (list_all (λ z. list_all (λ e. not (inner_product_is_one z (column e))) F) rows) (list_all (has_own_one dim rows) (all_below (length rows)))
    (passes_each (λ z. list_all (λ e. not (inner_product_is_one z (column e))) F) rows (λ k l.
    passes_each (λ e. not (inner_product_is_one (get_or rows k 0) (column e))) F (λ i h.
    ap not (meets_set n column F inside set maximal (get_or rows k 0) (λ j m. reduced.even j m k l) (get_or F i 0)
    (is_member-get_or F i (get_or F i 0) h refl)))))
    (passes_below (length rows) (has_own_one dim rows) (λ i l. test_from-IsOwnPlace dim rows i (reduced.own i l)))
