-- What probes show and zeros bound over the field of two elements. A sum of columns with the column of x in it meets the probe of x oddly, so it is
-- not zero. And for each zero a column can be added that it alone meets oddly, a one at its own place, so that independent columns stay so and
-- are no more than a column has entries.
use Rattle.mat_witness.proofs.Common.{◌≡◌, ℕ, zero, suc, ◌+◌, ◌-◌, ◌^◌, ◌<◌, ◌≤◌, ◌≢◌, Bool, true, false, not, cond, eqb, List, [], ◌∷◌, length, get_or, All, inl, inr, refl, sym, ap, ◌∙◌, subst, arith, cases_lt, both_ways, and_parts, and_from, not-true, or_cases, or_right, eq-eqb, eqb-true}
use Rattle.mat_witness.proofs.Common.{eqb-false, ne_eqb, false_from_ne_true, cond-true, cond-false, bit_at_above, is_member, IsRising, RisesFrom, IsSet, IsSubset, with_one, is_set, length-with_one, IsSet-from, IsSet-length, below_member, is_member-head, is_member-with_one, IsRising-with_one}
use Rattle.mat_witness.proofs.Common.{place_of_member, is_member-get_or, member_from, some_below_gives, IsSet-from_test, test_from-IsSet, xor_of, IsLinearlyIndependent, is_linearly_independent, is_gf2, column_of, IsBinaryMatrix, remainder, leading_bit, leading_bit-is, leading_bit-set}
use Rattle.mat_witness.proofs.Common.{reduced-keeps_clear, inner_product_is_one, differ, inner_product_is_one-xor_right, inner_product_is_one-zero_right, inner_product_is_one-power, inner_product_is_one-turned, meet_sum_evenly, shows_probes, are_zeros, has_own_one}
use Rattle.std.specs.Int.{bit_at}
use Rattle.std.specs.List.{list_all}
use Rattle.std.proofs.Math.Pow.{pow-lt}
use Rattle.mat_gf2.specs.PivotLaws.{pivots, no_pivot, IsRising-pivots, pivot-cases, length-pivots}
use Rattle.mat_gf2.specs.SpanLaws.{in_span-from_remainder, IsLinearlyIndependent-more, IsLinearlyIndependent-from_test, test_from-IsLinearlyIndependent}
use Rattle.mat_witness.proofs.PassingLists.{all_below_pass, member_passes}

-- ---- probes

-- the i-th probe meets the column of the j-th member oddly exactly where i is j
pub record AreTelling (column : ℕ → ℕ) (numbers X : List ℕ) : Type 0 where
  pub tells : (i j : ℕ) → i < length X → j < length X → inner_product_is_one (get_or numbers i 0) (column (get_or X j 0)) ≡ eqb i j

AreTelling-from_test : (column : ℕ → ℕ) (numbers X : List ℕ) → shows_probes column numbers X ≡ true → AreTelling column numbers X
AreTelling-from_test column numbers X shown = record {
  tells = λ i j l k. told (eqb i j) (inner_product_is_one (get_or numbers i 0) (column (get_or X j 0)))
      (all_below_pass (length X) _ j (all_below_pass (length X) _ i (and_parts (eqb (length numbers) (length X)) _ shown).1 l) k);
}
  where
    told : (b m : Bool) → cond b m (not m) ≡ true → m ≡ b
    told true m h = h
    told false m h = not-true m h

module _ (column : ℕ → ℕ) (numbers X : List ℕ) (telling : AreTelling column numbers X) where
  -- a sum with the column of x in it meets the probe of x oddly
  sum_not_zero : (x : ℕ) (t : List ℕ) → RisesFrom (suc x) t → IsSubset (x ∷ t) X → xor_of column (x ∷ t) ≢ 0
  sum_not_zero x t rises inside nothing =
      let at = place_of_member x X (inside.inside x (is_member-head x t)) in
      let probe = get_or numbers at.0 0 in
      let odd : inner_product_is_one probe (column x) ≡ true
      = subst (λ y. inner_product_is_one probe (column y) ≡ true) at.2 (telling.tells at.0 at.0 at.1 at.1 ∙ eq-eqb at.0 at.0 refl) in
      let rest = meet_sum_evenly column probe t (others at.0 at.1 at.2) in
      both_ways (inner_product_is_one probe (xor_of column (x ∷ t))) (ap (inner_product_is_one probe) nothing ∙ inner_product_is_one-zero_right probe)
      (inner_product_is_one-xor_right probe (column x) (xor_of column t) ∙ ap (λ b. differ b (inner_product_is_one probe (xor_of column t))) odd ∙ ap not rest)
    where
      others : (i : ℕ) → i < length X → get_or X i 0 ≡ x → (y : ℕ) → is_member y t ≡ true → inner_product_is_one (get_or numbers i 0) (column y) ≡ false
      others i l e y m =
          let at = place_of_member y X (inside.inside y (or_right (eqb y x) (is_member y t) m)) in
          let above = member_from (suc x) y t rises m in
          subst (λ z. inner_product_is_one (get_or numbers i 0) (column z) ≡ false) at.2
          (telling.tells i at.0 l at.1 ∙ ne_eqb i at.0 (λ same. (let k = sym e ∙ ap (λ q. get_or X q 0) same ∙ at.2 in omega arith)))

  pub telling_independent : IsLinearlyIndependent column X
  telling_independent = record { nonzero = λ s rises inside some. by_head s rises inside some }
    where
      by_head : (s : List ℕ) → IsRising s → IsSubset s X → s ≢ [] → xor_of column s ≢ 0
      by_head [] rises inside some = absurd (some refl)
      by_head (x ∷ t) rises inside some = sum_not_zero x t rises.rises.1 inside

pub probes_are_shown : (dim : ℕ) (columns numbers X : List ℕ) → IsBinaryMatrix dim columns → IsSet (length columns) X
    → shows_probes (column_of columns) numbers X ≡ true → is_gf2 (length columns) (column_of columns) X ≡ true
probes_are_shown dim columns numbers X sound set shown =
    let column = column_of columns in
    and_from (is_set (length columns) X) (is_linearly_independent column X) (test_from-IsSet (length columns) X set)
    (test_from-IsLinearlyIndependent column X set.rising (telling_independent column numbers X (AreTelling-from_test column numbers X shown)))

-- ---- independent columns are no more than there are entries

module _ (column : ℕ → ℕ) (i : ℕ) where
  clear_remainder : (X : List ℕ) (v : ℕ) → ((e : ℕ) → is_member e X ≡ true → bit_at (column e) i ≡ 0) → bit_at v i ≡ 0
      → bit_at (remainder column X v) i ≡ 0
  unfolding remainder
  clear_remainder [] v clear h = h
  clear_remainder (e ∷ X) v clear h =
      let rest = λ (f : ℕ) (m : is_member f X ≡ true). clear f (or_right (eqb f e) (is_member f X) m) in
      reduced-keeps_clear (remainder column X v) (remainder column X (column e)) i (clear_remainder X v rest h)
      (clear_remainder X (column e) rest (clear e (is_member-head e X)))

  -- a place where all columns have zeros is no pivot
  clear_place : (X : List ℕ) → ((e : ℕ) → is_member e X ≡ true → bit_at (column e) i ≡ 0) → is_member i (pivots column X) ≡ true → ⊥
  clear_place [] clear m = no_pivot column i m
  clear_place (e ∷ X) clear m =
      let rest = λ (f : ℕ) (k : is_member f X ≡ true). clear f (or_right (eqb f e) (is_member f X) k) in
      elim (pivot-cases column e X i m) [
        | inl own ↦ (let left = remainder column X (column e) in
            let some = eqb-false left 0 own.0 in
            let set = leading_bit-set left (leading_bit left) (leading_bit-is left (omega arith)) in
            let none = clear_remainder X (column e) rest (clear e (is_member-head e X)) in
            let same = ap (bit_at left) own.1 in
            omega arith)
        | inr k ↦ clear_place X rest k
      ]

independent-few : (column : ℕ → ℕ) (dim : ℕ) (X : List ℕ) → IsRising X → IsLinearlyIndependent column X
    → ((e : ℕ) → is_member e X ≡ true → column e < 2 ^ dim) → length X ≤ dim
independent-few column dim X rising free below =
    let few = IsSet-length dim (pivots column X) (IsSet-from dim (pivots column X) (IsRising-pivots column X) inside) in
    let many = length-pivots column X rising free in
    omega arith
  where
    inside : (q : ℕ) → is_member q (pivots column X) ≡ true → q < dim
    inside q m = elim (cases_lt q dim) [
      | inl l ↦ l
      | inr h ↦ absurd (clear_place column q X (λ e k. bit_at_above (column e) dim q (below e k) h) m)
    ]

-- ---- a column more, which a number that meets the others evenly meets oddly

module _ (column : ℕ → ℕ) (m w : ℕ) (X : List ℕ) (free : IsLinearlyIndependent column X) (new : is_member m X ≡ false) where
  abbrev grown : ℕ → ℕ
  grown e = cond (eqb e m) w (column e)

  grown-own : grown m ≡ w
  grown-own = cond-true (eqb m m) w (column m) (eq-eqb m m refl)

  grown-other : (e : ℕ) → is_member e X ≡ true → grown e ≡ column e
  grown-other e k = cond-false (eqb e m) w (column e) (ne_eqb e m (λ same. both_ways (is_member e X) (ap (λ x. is_member x X) same ∙ new) k))

  sum_of_others : (s : List ℕ) → ((e : ℕ) → is_member e s ≡ true → is_member e X ≡ true) → xor_of grown s ≡ xor_of column s
  sum_of_others [] inside = refl
  sum_of_others (e ∷ s) inside = rw (
    grown-other e (inside e (is_member-head e s)),
    sum_of_others s (λ f k. inside f (or_right (eqb f e) (is_member f s) k)),
  ) refl

  others_free : IsLinearlyIndependent grown X
  others_free = record { nonzero = λ s rises inside some nothing. free.nonzero s rises inside some (sym (sum_of_others s inside.inside) ∙ nothing) }

  grown_free : (z : ℕ) → ((e : ℕ) → is_member e X ≡ true → inner_product_is_one z (column e) ≡ false) → inner_product_is_one z w ≡ true
      → IsLinearlyIndependent grown (with_one X m)
  grown_free z even odd = IsLinearlyIndependent-more grown X m (with_one X m) others_free left old
    where
      left : remainder grown X (grown m) ≢ 0
      left nothing =
          let span = in_span-from_remainder grown X (grown m) nothing in
          both_ways (inner_product_is_one z (grown m))
          (ap (inner_product_is_one z) (sym span.sum) ∙ meet_sum_evenly grown z span.part
          (λ e k. (let inside = span.inside.inside e k in ap (inner_product_is_one z) (grown-other e inside) ∙ even e inside)))
          (ap (inner_product_is_one z) grown-own ∙ odd)

      old : (e : ℕ) → is_member e (with_one X m) ≡ true → eqb e m ≡ false → is_member e X ≡ true
      old e k other = elim (or_cases (eqb e m) (is_member e X) (sym (is_member-with_one e m X) ∙ k)) [
        | inl same ↦ absurd (both_ways (eqb e m) other same)
        | inr inside ↦ inside
      ]

-- ---- zeros

-- a place where the i-th of k numbers alone has a one
pub record IsOwnPlace (dim k : ℕ) (zeros : ℕ → ℕ) (i : ℕ) : Type 0 where
  pub place : ℕ
  pub within : place < dim
  pub alone : (j : ℕ) → j < k → bit_at (zeros j) place ≡ cond (eqb i j) 1 0

independent_beside : (k dim m : ℕ) (zeros column : ℕ → ℕ) (X : List ℕ) → IsRising X → ((e : ℕ) → is_member e X ≡ true → e < m)
    → IsLinearlyIndependent column X → ((e : ℕ) → is_member e X ≡ true → column e < 2 ^ dim)
    → ((i e : ℕ) → i < k → is_member e X ≡ true → inner_product_is_one (zeros i) (column e) ≡ false)
    → ((i : ℕ) → i < k → IsOwnPlace dim k zeros i) → length X + k ≤ dim
independent_beside zero dim m zeros column X rising small free below even own =
    let few = independent-few column dim X rising free below in omega arith
independent_beside (suc k) dim m zeros column X rising small free below even own =
    let last = own k (omega arith) in
    let w = 2 ^ last.place in
    let new : is_member m X ≡ false = false_from_ne_true _ (λ h. (let l = small m h in omega arith)) in
    let odd : inner_product_is_one (zeros k) w ≡ true = inner_product_is_one-turned (zeros k) w ∙ inner_product_is_one-power last.place (zeros k)
    ∙ ap (λ b. eqb b 1) (last.alone k (omega arith) ∙ cond-true (eqb k k) 1 0 (eq-eqb k k refl)) in
    let column_more = grown column m w X free new in
    let longer = length-with_one X m rising new in
    let more = independent_beside k dim (suc m) zeros column_more (with_one X m) (IsRising-with_one X m rising)
    (λ e h. by_case (λ x. x < suc m) e h (omega arith) (λ k. (let l = small e k in omega arith)))
    (grown_free column m w X free new (zeros k) (λ e h. even k e (omega arith) h) odd)
    (λ e h. by_case (λ x. column_more x < 2 ^ dim) e h
    (subst (λ v. v < 2 ^ dim) (sym (grown-own column m w X free new)) (pow-lt last.within))
    (λ k. subst (λ v. v < 2 ^ dim) (sym (grown-other column m w X free new e k)) (below e k)))
    (λ i e l h. by_case (λ x. inner_product_is_one (zeros i) (column_more x) ≡ false) e h
    (ap (inner_product_is_one (zeros i)) (grown-own column m w X free new) ∙ inner_product_is_one-turned (zeros i) w ∙ inner_product_is_one-power last.place (zeros i)
    ∙ ap (λ b. eqb b 1) (last.alone i (omega arith) ∙ cond-false (eqb k i) 1 0 (ne_eqb k i (omega arith))))
    (λ k. ap (inner_product_is_one (zeros i)) (grown-other column m w X free new e k) ∙ even i e (omega arith) k))
    (λ i l. (let o = own i (omega arith) in record { place = o.place; within = o.within; alone = λ j h. o.alone j (omega arith) })) in
    omega arith
  where
    by_case : (P : ℕ → Type 0) (e : ℕ) → is_member e (with_one X m) ≡ true → P m → (is_member e X ≡ true → P e) → P e
    by_case P e h own other = elim (or_cases (eqb e m) (is_member e X) (sym (is_member-with_one e m X) ∙ h)) [
      | inl same ↦ subst P (sym (eqb-true e m same)) own
      | inr inside ↦ other inside
    ]

IsOwnPlace-from_test : (dim : ℕ) (numbers : List ℕ) (i : ℕ) → has_own_one dim numbers i ≡ true
    → IsOwnPlace dim (length numbers) (λ j. get_or numbers j 0) i
IsOwnPlace-from_test dim numbers i h =
    let w = some_below_gives dim _ h in
    record {
      place = w.0;
      within = w.1;
      alone = λ j l. eqb-true _ _ (all_below_pass (length numbers) (λ j. eqb (bit_at (get_or numbers j 0) w.0) (cond (eqb i j) 1 0)) j w.2 l);
    }

pub zeros_bound_holds : (dim : ℕ) (columns numbers F I : List ℕ) → IsBinaryMatrix dim columns → IsSet (length columns) F
    → length numbers ≤ dim → All (λ zero. zero < 2 ^ dim) numbers → are_zeros dim (column_of columns) numbers F ≡ true
    → is_gf2 (length columns) (column_of columns) I ≡ true → IsSubset I F → length I ≤ dim - length numbers
zeros_bound_holds dim columns numbers F I sound set few small shown passes inside =
    let column = column_of columns in
    let tests = and_parts (is_set (length columns) I) (is_linearly_independent column I) passes in
    let ground = IsSet-from_test (length columns) I tests.0 in
    let parts = and_parts (list_all (λ z. list_all (λ e. not (inner_product_is_one z (column e))) F) numbers) _ shown in
    let both = independent_beside (length numbers) dim (length columns) (λ j. get_or numbers j 0) column I ground.rising
    (λ e m. below_member ground m) (IsLinearlyIndependent-from_test column I ground.rising tests.1)
    (λ e m. sound.below e (below_member ground m))
    (λ i e l m. not-true _ (member_passes (λ e. not (inner_product_is_one (get_or numbers i 0) (column e))) F e
    (member_passes (λ z. list_all (λ e. not (inner_product_is_one z (column e))) F) numbers (get_or numbers i 0) parts.0 (is_member-get_or numbers i (get_or numbers i 0) l refl))
    (inside.inside e m)))
    (λ i l. IsOwnPlace-from_test dim numbers i (all_below_pass (length numbers) (has_own_one dim numbers) i parts.1 l)) in
    omega arith
