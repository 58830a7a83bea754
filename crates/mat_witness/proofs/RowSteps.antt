-- What taking a row out of a list of rows and adding it to the others keeps: a number that all rows meet evenly they still meet so, each row keeps
-- its own one, and a number that the new rows and the one taken out meet evenly the old rows met so.
use Rattle.mat_witness.proofs.Common.{◌≡◌, ℕ, ◌+◌, ◌-◌, ◌*◌, ◌%◌, ◌^◌, ◌<◌, ◌≤◌, ◌≢◌, Bool, true, false, not, cond, eqb, ltb, List, length, map, get_or, ◌⊎◌, inl, inr, refl, sym, ap, ◌∙◌, subst, arith, cases_Bool, cases_lt, cases_eq, eq-eqb, ne_eqb, lt-ltb, le-ltb, cond-true, cond-false, length-map}
use Rattle.mat_witness.proofs.Common.{get_or-map, length-remove, get_or-remove_below, get_or-remove_above, xor_lt, bit_at_xor, bit_at-lt, bit_at-pow_same, bit_at-pow_other, all_below, length-map_all_below, get_or-map_all_below, inner_product_is_one, differ, inner_product_is_one-xor, evened, IsTaken}
use Rattle.std.specs.Int.{bit_at}
use Rattle.std.specs.Int.Bits.{bit_xor}
use Rattle.std.specs.List.{remove}
use Rattle.std.proofs.Math.Nat.{mod-eq_of_lt}
use Rattle.std.proofs.Math.Pow.{pow-lt}
use Rattle.mat_witness.proofs.ColumnParts.{IsOwnPlace}

-- ---- one row

pub one_shifted : (place : ℕ) → place < 128 → (1 * 2 ^ place) % 2 ^ 128 ≡ 2 ^ place
one_shifted place l = ap (λ x. x % 2 ^ 128) (once (2 ^ place)) ∙ mod-eq_of_lt (pow-lt l)
  where
    once : (m : ℕ) → 1 * m ≡ m
    once m = omega arith

module _ (row column number : ℕ) where
  pub evened-below : (dim : ℕ) → row < 2 ^ dim → number < 2 ^ dim → evened row column number < 2 ^ dim
  evened-below dim l k = elim (cases_Bool (inner_product_is_one number column)) [
    | inl h ↦ rw h (xor_lt dim number row k l)
    | inr h ↦ rw h k
  ]

  -- what the row meets evenly is met as before
  pub evened-keeps : (v : ℕ) → inner_product_is_one row v ≡ false → inner_product_is_one (evened row column number) v ≡ inner_product_is_one number v
  evened-keeps v even = elim (cases_Bool (inner_product_is_one number column)) [
    | inl h ↦ ap (λ x. inner_product_is_one x v) (cond-true (inner_product_is_one number column) (bit_xor number row) number h) ∙ inner_product_is_one-xor number row v
        ∙ ap (differ (inner_product_is_one number v)) even ∙ alone (inner_product_is_one number v)
    | inr h ↦ ap (λ x. inner_product_is_one x v) (cond-false (inner_product_is_one number column) (bit_xor number row) number h)
  ]
    where
      alone : (b : Bool) → differ b false ≡ b
      alone true = refl
      alone false = refl

  -- the column is met evenly
  pub evened-even : inner_product_is_one row column ≡ true → inner_product_is_one (evened row column number) column ≡ false
  evened-even odd = elim (cases_Bool (inner_product_is_one number column)) [
    | inl h ↦ ap (λ x. inner_product_is_one x column) (cond-true (inner_product_is_one number column) (bit_xor number row) number h) ∙ inner_product_is_one-xor number row column
        ∙ ap (λ b. differ b (inner_product_is_one row column)) h ∙ ap not odd
    | inr h ↦ ap (λ x. inner_product_is_one x column) (cond-false (inner_product_is_one number column) (bit_xor number row) number h) ∙ h
  ]

  evened-bit : (place : ℕ) → bit_at row place ≡ 0 → bit_at (evened row column number) place ≡ bit_at number place
  evened-bit place clear = elim (cases_Bool (inner_product_is_one number column)) [
    | inl h ↦ ap (λ x. bit_at x place) (cond-true (inner_product_is_one number column) (bit_xor number row) number h) ∙ bit_at_xor number row place
        ∙ (let l = bit_at-lt number place in omega arith)
    | inr h ↦ ap (λ x. bit_at x place) (cond-false (inner_product_is_one number column) (bit_xor number row) number h)
  ]

-- ---- places before and after one is taken out

abbrev skipping : ℕ → ℕ → ℕ
skipping at k = cond (ltb k at) k (k + 1)

skipping-cases : (at k : ℕ) → ((k < at) × (skipping at k ≡ k)) ⊎ ((at ≤ k) × (skipping at k ≡ k + 1))
skipping-cases at k = elim (cases_lt k at) [
  | inl l ↦ inl (l, cond-true (ltb k at) k (k + 1) (lt-ltb k at l))
  | inr h ↦ inr (h, cond-false (ltb k at) k (k + 1) (le-ltb k at h))
]

skipping-same : (at i j : ℕ) → eqb (skipping at i) (skipping at j) ≡ eqb i j
skipping-same at i j = elim (cases_eq i j) [
  | inl e ↦ eq-eqb (skipping at i) (skipping at j) (ap (skipping at) e) ∙ sym (eq-eqb i j e)
  | inr d ↦ ne_eqb (skipping at i) (skipping at j) (apart d (skipping-cases at i) (skipping-cases at j)) ∙ sym (ne_eqb i j d)
]
  where
    apart : i ≢ j → ((i < at) × (skipping at i ≡ i)) ⊎ ((at ≤ i) × (skipping at i ≡ i + 1))
        → ((j < at) × (skipping at j ≡ j)) ⊎ ((at ≤ j) × (skipping at j ≡ j + 1)) → skipping at i ≢ skipping at j
    apart d (inl a) (inl b) e = d (sym a.1 ∙ e ∙ b.1)
    apart d (inl a) (inr b) e = let l = a.0 in let m = b.0 in let f = sym a.1 ∙ e ∙ b.1 in omega arith
    apart d (inr a) (inl b) e = let l = a.0 in let m = b.0 in let f = sym a.1 ∙ e ∙ b.1 in omega arith
    apart d (inr a) (inr b) e = d (let f = sym a.1 ∙ e ∙ b.1 in omega arith)

-- ---- the rows

-- each row below the place
abbrev pub EachRow : (ℕ → Type 0) → List ℕ → Type 0
EachRow P rows = (i : ℕ) → i < length rows → P (get_or rows i 0)

-- each row meets v evenly
abbrev pub AreEven : ℕ → List ℕ → Type 0
AreEven v rows = EachRow (λ row. inner_product_is_one row v ≡ false) rows

-- each row has a one of its own
abbrev pub HaveOwnPlaces : ℕ → List ℕ → Type 0
HaveOwnPlaces dim rows = (i : ℕ) → i < length rows → IsOwnPlace dim (length rows) (λ j. get_or rows j 0) i

module _ (before : List ℕ) (column row : ℕ) (after : List ℕ) (taken : IsTaken before column row after) where
  pub length-taken : length after + 1 ≡ length before
  length-taken =
      ap (λ rows. length rows + 1) taken.left ∙ ap (λ n. n + 1) (length-map (remove before taken.at) (evened row column))
      ∙ length-remove before taken.at taken.within

  was-within : (k : ℕ) → k < length after → skipping taken.at k < length before
  was-within k l = let n = length-taken in elim (skipping-cases taken.at k) [
    | inl a ↦ (let e = a.1 in omega arith)
    | inr a ↦ (let e = a.1 in omega arith)
  ]

  was-other : (k : ℕ) → skipping taken.at k ≢ taken.at
  was-other k same = elim (skipping-cases taken.at k) [
    | inl a ↦ (let l = a.0 in let e = a.1 in omega arith)
    | inr a ↦ (let l = a.0 in let e = a.1 in omega arith)
  ]

  was-row : (k : ℕ) → k < length after → get_or after k 0 ≡ evened row column (get_or before (skipping taken.at k) 0)
  was-row k l =
      let shorter = length-remove before taken.at taken.within in
      let n = length-taken in
      ap (λ rows. get_or rows k 0) taken.left ∙ get_or-map (evened row column) (remove before taken.at) k 0 0 (omega arith)
      ∙ ap (evened row column) (elim (skipping-cases taken.at k) [
        | inl a ↦ get_or-remove_below before taken.at 0 k a.0 taken.within ∙ ap (λ j. get_or before j 0) (sym a.1)
        | inr a ↦ get_or-remove_above before taken.at 0 k a.0 taken.within ∙ ap (λ j. get_or before j 0) (sym a.1)
      ])

  is-row : (j : ℕ) → j < length before → j ≢ taken.at
      → (k : ℕ) × (k < length after) × (get_or after k 0 ≡ evened row column (get_or before j 0))
  is-row j l other = let n = length-taken in let w = taken.within in elim (cases_lt j taken.at) [
    | inl h ↦ found j (omega arith) (elim (skipping-cases taken.at j) [ inl a ↦ a.1 | inr a ↦ absurd (let m = a.0 in omega arith) ])
    | inr h ↦ found (j - 1) (omega arith)
        (elim (skipping-cases taken.at (j - 1)) [ inl a ↦ absurd (let m = a.0 in omega arith) | inr a ↦ (let e = a.1 in omega arith) ])
  ]
    where
      found : (k : ℕ) → k < length after → skipping taken.at k ≡ j
          → (k : ℕ) × (k < length after) × (get_or after k 0 ≡ evened row column (get_or before j 0))
      found k m e = (k, m, was-row k m ∙ ap (λ i. evened row column (get_or before i 0)) e)

  pub taken-even : (v : ℕ) → AreEven v before → inner_product_is_one row v ≡ false
  taken-even v even = subst (λ x. inner_product_is_one x v ≡ false) taken.is (even taken.at taken.within)

  pub stay_even : (v : ℕ) → AreEven v before → AreEven v after
  stay_even v even k l =
      ap (λ x. inner_product_is_one x v) (was-row k l) ∙ evened-keeps row column (get_or before (skipping taken.at k) 0) v (taken-even v even)
      ∙ even (skipping taken.at k) (was-within k l)

  pub become_even : AreEven column after
  become_even k l = ap (λ x. inner_product_is_one x column) (was-row k l) ∙ evened-even row column (get_or before (skipping taken.at k) 0) taken.odd

  pub taken-below : (dim : ℕ) → EachRow (λ x. x < 2 ^ dim) before → row < 2 ^ dim
  taken-below dim below = subst (λ x. x < 2 ^ dim) taken.is (below taken.at taken.within)

  pub stay_below : (dim : ℕ) → EachRow (λ x. x < 2 ^ dim) before → EachRow (λ x. x < 2 ^ dim) after
  stay_below dim below k l =
      subst (λ x. x < 2 ^ dim) (sym (was-row k l))
      (evened-below row column (get_or before (skipping taken.at k) 0) dim (taken-below dim below) (below (skipping taken.at k) (was-within k l)))

  -- the row taken out has no one at the others' own places
  pub keep_own_places : (dim : ℕ) → HaveOwnPlaces dim before → HaveOwnPlaces dim after
  keep_own_places dim own k l =
      let old = own (skipping taken.at k) (was-within k l) in
      let clear : bit_at row old.place ≡ 0
      = ap (λ x. bit_at x old.place) (sym taken.is) ∙ old.alone taken.at taken.within
      ∙ cond-false (eqb (skipping taken.at k) taken.at) 1 0 (ne_eqb (skipping taken.at k) taken.at (was-other k)) in
      record {
        place = old.place;
        within = old.within;
        alone = λ j m. ap (λ x. bit_at x old.place) (was-row j m)
            ∙ evened-bit row column (get_or before (skipping taken.at j) 0) old.place clear
            ∙ old.alone (skipping taken.at j) (was-within j m) ∙ ap (λ b. cond b 1 0) (skipping-same taken.at k j);
      }

  -- what the new rows and the one taken out meet evenly, the old rows meet evenly
  pub were_even : (v : ℕ) → inner_product_is_one row v ≡ false → AreEven v after → AreEven v before
  were_even v even rest j l = elim (cases_eq j taken.at) [
    | inl e ↦ ap (λ i. inner_product_is_one (get_or before i 0) v) e ∙ ap (λ x. inner_product_is_one x v) taken.is ∙ even
    | inr other ↦ (let w = is-row j l other in
        sym (evened-keeps row column (get_or before j 0) v even) ∙ ap (λ x. inner_product_is_one x v) (sym w.2) ∙ rest w.0 w.1)
  ]

-- ---- the rows at first

module _ (dim : ℕ) (rows : List ℕ) (units : rows ≡ map (λ place. 2 ^ place) (all_below dim)) where
  pub length-units : length rows ≡ dim
  length-units = ap length units ∙ length-map_all_below (λ place. 2 ^ place) dim

  pub unit_row : (i : ℕ) → i < dim → get_or rows i 0 ≡ 2 ^ i
  unit_row i l = ap (λ all. get_or all i 0) units ∙ get_or-map_all_below (λ place. 2 ^ place) dim i 0 l

  pub units_below : EachRow (λ x. x < 2 ^ dim) rows
  units_below i l = let n = length-units in
      let within : i < dim = omega arith in
      subst (λ x. x < 2 ^ dim) (sym (unit_row i within)) (pow-lt within)

  pub units_have_own_places : HaveOwnPlaces dim rows
  units_have_own_places i l = let n = length-units in record {
    place = i;
    within = omega arith;
    alone = λ j m. ap (λ x. bit_at x i) (unit_row j (omega arith)) ∙ elim (cases_eq i j) [
      | inl e ↦ ap (bit_at (2 ^ j)) e ∙ bit_at-pow_same j ∙ sym (cond-true (eqb i j) 1 0 (eq-eqb i j e))
      | inr d ↦ bit_at-pow_other j i d ∙ sym (cond-false (eqb i j) 1 0 (ne_eqb i j d))
    ];
  }
