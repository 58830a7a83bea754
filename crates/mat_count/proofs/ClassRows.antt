-- The exchanges at an independent set of a partition matroid: x puts one more member into its own class alone, and an exchange for y takes
-- one out of the class of y; so where the class of x is full, y has to stand in it, and else every y will do.
use Rattle.mat_count.proofs.Common.{◌≡◌, ℕ, ◌+◌, ◌<◌, ◌≤◌, Bool, true, false, List, [], length, get_or, ◌⊎◌, inl, inr, refl, sym, ap, ◌∙◌, arith, cases_Bool, both_ways, and_parts, and_from, false_from_ne_true, is_member, AllBelow, IsRising, IsSet, with_one, without_one, intersection, is_set}
use Rattle.mat_count.proofs.Common.{indicator, filter_same_at, IsRising-without_one, set_members, IsSet-with_one, IsSet-without_one, IsSet-from_test, test_from-IsSet, filter_whole, Exchange, row_of, row_outside, is_within_caps, IsWithinCaps, is_counted, IsWithinCaps-from_test}
use Rattle.mat_count.proofs.Common.{test_from-IsWithinCaps, counted_more, counted_same}
use Rattle.mat_sets.proofs.Changes.{with_one-returned}

-- ---- counts in one set

-- one more element
pub counted-with_one : (S X : List ℕ) (x : ℕ) → IsRising X → is_member x X ≡ false
    → length (intersection (with_one X x) S) ≡ length (intersection X S) + indicator (is_member x S)
counted-with_one S X x rising outside = elim (cases_Bool (is_member x S)) [
  | inl inside ↦ rw inside (let more = counted_more S X x rising outside inside in omega arith)
  | inr apart ↦ rw apart (let same = ap length (counted_same S X x rising apart) in omega arith)
]

-- an exchange
pub counted-exchanged : (S I : List ℕ) (x y : ℕ) → IsRising I → is_member x I ≡ false → is_member y I ≡ true
    → length (intersection (with_one (without_one I y) x) S) + indicator (is_member y S)
    ≡ length (intersection I S) + indicator (is_member x S)
counted-exchanged S I x y rising outside inside =
    let absent : is_member x (without_one I y) ≡ false = grind (arith, set_members) in
    let gone : is_member y (without_one I y) ≡ false = grind (arith, set_members) in
    let added = counted-with_one S (without_one I y) x (IsRising-without_one I y rising) absent in
    let back = counted-with_one S (without_one I y) y (IsRising-without_one I y rising) gone in
    let same = ap (λ X. length (intersection X S)) (with_one-returned I y rising inside) in
    omega arith

-- ---- whether an exchanged set is independent

-- a count after one more, or after an exchange, is at most the cap
fits_added : (a : Bool) (after before cap : ℕ) → after ≡ before + indicator a → before ≤ cap → (a ≡ true → before < cap)
    → after ≤ cap
fits_added true after before cap is most room = let less = room refl in omega arith
fits_added false after before cap is most room = omega arith

fits_exchanged : (a b : Bool) (after before cap : ℕ) → after + indicator b ≡ before + indicator a → before ≤ cap
    → (a ≡ true → (before < cap) ⊎ (b ≡ true)) → after ≤ cap
fits_exchanged true true after before cap is most room = omega arith
fits_exchanged false b after before cap is most room = omega arith
fits_exchanged true false after before cap is most room = elim (room refl) [
  | inl less ↦ omega arith
  | inr never ↦ absurd (both_ways false refl never)
]

-- whether x stands in the listed set at place i, and how many members of X do
abbrev stands_in : List (List ℕ) → ℕ → ℕ → Bool
stands_in sets i x = is_member x (get_or sets i [])

abbrev count_in : List (List ℕ) → ℕ → List ℕ → ℕ
count_in sets i X = length (intersection X (get_or sets i []))

-- a set that passes both tests
counted : (n : ℕ) (sets : List (List ℕ)) (caps X : List ℕ) → IsSet n X → IsWithinCaps sets caps X
    → is_counted n sets caps X ≡ true
counted n sets caps X set within =
    and_from (is_set n X) (is_within_caps sets caps X) (test_from-IsSet n X set) (test_from-IsWithinCaps sets caps X within)

-- a set that has too many members in one listed set
pub not_counted : (n : ℕ) (sets : List (List ℕ)) (caps X : List ℕ) (i : ℕ) → length caps ≡ length sets → i < length sets
    → get_or caps i 0 < count_in sets i X → is_counted n sets caps X ≡ false
not_counted n sets caps X i same l many = false_from_ne_true (is_counted n sets caps X) (λ h.
    let tests = and_parts (is_set n X) (is_within_caps sets caps X) h in
    let most = (IsWithinCaps-from_test sets caps X same tests.1).at i l in omega arith)

-- the members of an independent set are elements
pub counted_below : (n : ℕ) (sets : List (List ℕ)) (caps I : List ℕ) → is_counted n sets caps I ≡ true → AllBelow n I
counted_below n sets caps I passes = (IsSet-from_test n I (and_parts (is_set n I) (is_within_caps sets caps I) passes).0).below

-- an element x outside an independent set I
pub record IsOutside (n : ℕ) (sets : List (List ℕ)) (caps I : List ℕ) (x : ℕ) : Type 0 where
  pub same : length caps ≡ length sets
  pub small : x < n
  pub set : IsSet n I
  pub fits : IsWithinCaps sets caps I
  pub outside : is_member x I ≡ false

pub IsOutside-from_test : (n : ℕ) (sets : List (List ℕ)) (caps I : List ℕ) (x : ℕ) → length caps ≡ length sets → x < n
    → is_counted n sets caps I ≡ true → is_member x I ≡ false → IsOutside n sets caps I x
IsOutside-from_test n sets caps I x same small passes outside =
    let tests = and_parts (is_set n I) (is_within_caps sets caps I) passes in
    record {
      same = same;
      small = small;
      set = IsSet-from_test n I tests.0;
      fits = IsWithinCaps-from_test sets caps I same tests.1;
      outside = outside;
    }

module _ {n : ℕ} {sets : List (List ℕ)} {caps I : List ℕ} {x : ℕ} (o : IsOutside n sets caps I x) where
  abbrev exchange : ℕ → List ℕ
  exchange y = with_one (without_one I y) x

  -- I + x where no listed set that holds x is full
  pub added_with_room : ((i : ℕ) → i < length sets → stands_in sets i x ≡ true → count_in sets i I < get_or caps i 0)
      → is_counted n sets caps (with_one I x) ≡ true
  added_with_room room = counted n sets caps (with_one I x) (IsSet-with_one n I x o.set o.small) (record {
    at = λ i l. fits_added (stands_in sets i x) _ _ (get_or caps i 0)
        (counted-with_one (get_or sets i []) I x o.set.rising o.outside) (o.fits.at i l) (room i l);
  })

  -- I - y + x where each full listed set that holds x holds y as well
  pub exchanged_with_room : (y : ℕ) → is_member y I ≡ true
      → ((i : ℕ) → i < length sets → stands_in sets i x ≡ true → (count_in sets i I < get_or caps i 0) ⊎ (stands_in sets i y ≡ true))
      → is_counted n sets caps (exchange y) ≡ true
  exchanged_with_room y inside room =
      counted n sets caps (exchange y) (IsSet-with_one n (without_one I y) x (IsSet-without_one n I y o.set) o.small) (record {
        at = λ i l. fits_exchanged (stands_in sets i x) (stands_in sets i y) _ _ (get_or caps i 0)
            (counted-exchanged (get_or sets i []) I x y o.set.rising o.outside inside) (o.fits.at i l) (room i l);
      })

  -- ---- rows

  -- where no listed set that holds x is full, x can be added, and be exchanged for every member
  pub row_with_room : (row : Exchange)
      → ((i : ℕ) → i < length sets → is_member x (get_or sets i []) ≡ true → length (intersection I (get_or sets i [])) < get_or caps i 0)
      → row.addable ≡ true → row.with ≡ I → row ≡ row_of (is_counted n sets caps) I x
  row_with_room row room addable all =
      row_outside (is_counted n sets caps) I x row o.outside (addable ∙ sym (added_with_room room))
      (all ∙ sym (filter_whole (λ y. is_counted n sets caps (exchange y)) I (λ y m. exchanged_with_room y m (λ i l h. inl (room i l h)))))

  -- where the listed set at this place holds x and is full, and each full one that holds x has all members of I that it has, x can be exchanged
  -- for those members
  module _ {place : ℕ} (known : place < length sets) (own : is_member x (get_or sets place []) ≡ true)
      (others : (i : ℕ) → i < length sets → is_member x (get_or sets i []) ≡ true → (length (intersection I (get_or sets i [])) < get_or caps i 0)
      ⊎ ((y : ℕ) → is_member y I ≡ true → is_member y (get_or sets place []) ≡ true → is_member y (get_or sets i []) ≡ true))
      (full : get_or caps place 0 ≤ length (intersection I (get_or sets place []))) where
    added_at_full : is_counted n sets caps (with_one I x) ≡ false
    added_at_full = not_counted n sets caps (with_one I x) place o.same known (
        let more = counted_more (get_or sets place []) I x o.set.rising o.outside own in omega arith)

    exchanged_at_full : (y : ℕ) → is_member y I ≡ true → stands_in sets place y ≡ is_counted n sets caps (exchange y)
    exchanged_at_full y inside = elim (cases_Bool (stands_in sets place y)) [
      | inl member ↦ member ∙ sym (exchanged_with_room y inside (λ i l h. elim (others i l h) [
        | inl room ↦ inl room
        | inr all ↦ inr (all y inside member)
      ]))
      | inr absent ↦ absent ∙ sym (not_counted n sets caps (exchange y) place o.same known (
          let change = counted-exchanged (get_or sets place []) I x y o.set.rising o.outside inside in
          let one = ap indicator own in
          let none = ap indicator absent in
          omega arith))
    ]

    pub row_at_full : (row : Exchange) → row.addable ≡ false → row.with ≡ intersection I (get_or sets place [])
        → row ≡ row_of (is_counted n sets caps) I x
    unfolding intersection
    row_at_full row addable members =
        row_outside (is_counted n sets caps) I x row o.outside (addable ∙ sym added_at_full)
        (members ∙ filter_same_at (λ y. stands_in sets place y) (λ y. is_counted n sets caps (exchange y)) I exchanged_at_full)
