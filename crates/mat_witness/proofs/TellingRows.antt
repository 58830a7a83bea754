-- Probes by elimination. The row that a column takes out meets the earlier columns evenly, so it becomes the column's probe, and adding it to the
-- earlier probes makes them meet the new column evenly. No number but zero is met evenly by all rows and probes; so some row meets the next column
-- oddly, as else that column would be the sum of the earlier ones whose probes meet it oddly.
use Rattle.mat_witness.proofs.Common.{◌≡◌, ℕ, zero, suc, ◌+◌, ◌^◌, ◌<◌, Bool, true, false, not, cond, eqb, List, [], ◌∷◌, ◌++◌, length, map, get_or, inl, inr, refl, sym, ap, ◌∙◌, subst, arith, cases_Bool, cases_lt, both_ways, and_from, and_parts, eq-eqb, ne_eqb, cond-true, cond-false, length-map}
use Rattle.mat_witness.proofs.Common.{get_or-map, get_or_append_left, get_or_push, length_push, pow_pos, xor_lt, is_member, IsRising, all_below, without_one, is_set, below_member, IsSet-from_test, set_members, is_member-get_or, IsRising-nil, RisesFrom-index, without_one-IsSubset, IsBinaryMatrix}
use Rattle.mat_witness.proofs.Common.{IsLinearlyIndependent, is_linearly_independent, column_of, is_gf2, xor_cancel, inner_product_is_one, differ, inner_product_is_one-xor_right, inner_product_is_one-zero_right, zero_from_powers, shows_probes, evened, IsTaken}
use Rattle.std.specs.Int.Bits.{bit_xor, xor_zero_r}
use Rattle.std.specs.List.{list_all}
use Rattle.mat_gf2.specs.SpanLaws.{InSpan, in_span-column, dependent-with_sum, IsLinearlyIndependent-from_test}
use Rattle.mat_witness.proofs.PassingLists.{passes_below}
use Rattle.mat_witness.proofs.RowSteps.{EachRow, AreEven, evened-below, evened-keeps, evened-even, taken-even, taken-below, were_even, length-units, unit_row}
use Rattle.mat_witness.proofs.ReducedRows.{AreReduced, AreReduced-start, AreReduced-taken}

-- ---- sums of some of k numbers

unfoldable sum_where : (ℕ → Bool) → (ℕ → ℕ) → ℕ → ℕ
sum_where test number zero = 0
sum_where test number (suc k) = cond (test k) (bit_xor (number k) (sum_where test number k)) (sum_where test number k)

module _ (test : ℕ → Bool) (number : ℕ → ℕ) where
  sum_where-keeps : (P : ℕ → Type 0) (k : ℕ) → P 0 → ((b s : ℕ) → b < k → P s → P (bit_xor (number b) s)) → P (sum_where test number k)
  unfolding sum_where
  sum_where-keeps P zero none more = none
  sum_where-keeps P (suc k) none more =
      let rest = sum_where-keeps P k none (λ b s l h. more b s (omega arith) h) in
      elim (cases_Bool (test k)) [
        | inl h ↦ rw h (more k (sum_where test number k) (omega arith) rest)
        | inr h ↦ rw h rest
      ]

  sum_where-even : (z k : ℕ) → ((b : ℕ) → b < k → inner_product_is_one z (number b) ≡ false) → inner_product_is_one z (sum_where test number k) ≡ false
  sum_where-even z k even =
      sum_where-keeps (λ s. inner_product_is_one z s ≡ false) k (inner_product_is_one-zero_right z)
      (λ b s l h. inner_product_is_one-xor_right z (number b) s ∙ ap (λ q. differ q (inner_product_is_one z s)) (even b l) ∙ h)

  -- what meets the a-th number alone oddly meets the sum oddly where that is in it
  sum_where-told : (z a k : ℕ) → a < k → ((b : ℕ) → b < k → inner_product_is_one z (number b) ≡ eqb a b) → inner_product_is_one z (sum_where test number k) ≡ test a
  unfolding sum_where
  sum_where-told z a zero l tells = absurd (omega arith)
  sum_where-told z a (suc k) l tells = elim (cases_lt a k) [
    | inl below ↦ (let rest = sum_where-told z a k below (λ b h. tells b (omega arith)) in
        elim (cases_Bool (test k)) [
          | inl h ↦ ap (inner_product_is_one z) (cond-true (test k) _ _ h) ∙ inner_product_is_one-xor_right z (number k) (sum_where test number k)
              ∙ ap (λ q. differ q (inner_product_is_one z (sum_where test number k))) (tells k (omega arith) ∙ ne_eqb a k (omega arith)) ∙ rest
          | inr h ↦ ap (inner_product_is_one z) (cond-false (test k) _ _ h) ∙ rest
        ])
    | inr above ↦ (let same : a ≡ k = omega arith in
        let rest = sum_where-even z k (λ b h. tells b (omega arith) ∙ ne_eqb a b (omega arith)) in
        elim (cases_Bool (test k)) [
          | inl h ↦ ap (inner_product_is_one z) (cond-true (test k) _ _ h) ∙ inner_product_is_one-xor_right z (number k) (sum_where test number k)
              ∙ ap (λ q. differ q (inner_product_is_one z (sum_where test number k))) (tells k (omega arith) ∙ eq-eqb a k same) ∙ ap not rest
              ∙ sym (ap test same ∙ h)
          | inr h ↦ ap (inner_product_is_one z) (cond-false (test k) _ _ h) ∙ rest ∙ sym (ap test same ∙ h)
        ])
  ]

-- ---- rows and probes

-- after the first i columns of a list
pub record AreProbes (dim : ℕ) (column : ℕ → ℕ) (X : List ℕ) (i : ℕ) (rows probes : List ℕ) : Type 0 where
  pub reduced : AreReduced dim column X i rows
  pub below : EachRow (λ x. x < 2 ^ dim) probes
  pub many : length probes ≡ i
  pub tells : (a b : ℕ) → a < i → b < i → inner_product_is_one (get_or probes a 0) (column (get_or X b 0)) ≡ eqb a b
  pub apart : (v : ℕ) → v < 2 ^ dim → AreEven v rows → AreEven v probes → v ≡ 0

pub AreProbes-start : (dim : ℕ) (column : ℕ → ℕ) (X rows probes : List ℕ) → rows ≡ map (λ place. 2 ^ place) (all_below dim) → probes ≡ []
    → AreProbes dim column X 0 rows probes
AreProbes-start dim column X rows probes units none =
    let n = length-units dim rows units in
    let m = ap length none in
    record {
      reduced = AreReduced-start dim column X rows units;
      below = λ i l. absurd (omega arith);
      many = omega arith;
      tells = λ a b l k. absurd (omega arith);
      apart = λ v l even probed. zero_from_powers dim v l (λ p k. ap (λ x. inner_product_is_one x v) (sym (unit_row dim rows units p k)) ∙ even p (omega arith));
    }

module _ (dim : ℕ) (column : ℕ → ℕ) (X : List ℕ) (i : ℕ) (rows probes : List ℕ) (h : AreProbes dim column X i rows probes) where
  -- the next column is no sum of the earlier ones, so some row meets it oddly
  pub some_row_odd : IsRising X → IsLinearlyIndependent column X → ((b : ℕ) → b < length X → column (get_or X b 0) < 2 ^ dim) → i < length X
      → AreEven (column (get_or X i 0)) rows → ⊥
  some_row_odd rising free small within even =
      dependent-with_sum column others X x out (subst (InSpan column others) sum in_span) (member i within) (without_one-IsSubset X x) free
    where
      x : ℕ
      x = get_or X i 0

      c : ℕ
      c = column x

      number : ℕ → ℕ
      number b = column (get_or X b 0)

      test : ℕ → Bool
      test b = inner_product_is_one (get_or probes b 0) c

      s : ℕ
      s = sum_where test number i

      others : List ℕ
      others = without_one X x

      member : (b : ℕ) → b < length X → is_member (get_or X b 0) X ≡ true
      member b l = is_member-get_or X b (get_or X b 0) l refl

      out : is_member x others ≡ false
      out = grind (arith, set_members)

      earlier : (b : ℕ) → b < i → is_member (get_or X b 0) others ≡ true
      earlier b l =
          let inside = member b (omega arith) in
          let less = RisesFrom-index 0 X b i rising.rises l within in
          let other : eqb (get_or X b 0) x ≡ false = ne_eqb (get_or X b 0) x (omega arith) in
          grind (arith, set_members)

      in_span : InSpan column others s
      in_span = sum_where-keeps test number (InSpan column others) i
          (record { part = []; rising = IsRising-nil; inside = record { inside = λ z k. absurd (both_ways false refl k) }; sum = refl })
          (λ b v l span. in_span-column column others (get_or X b 0) v (earlier b l) span)

      s_small : s < 2 ^ dim
      s_small = sum_where-keeps test number (λ v. v < 2 ^ dim) i (pow_pos dim) (λ b v l k. xor_lt dim (number b) v (small b (omega arith)) k)

      rows_even : AreEven (bit_xor c s) rows
      rows_even k l =
          let row = get_or rows k 0 in
          inner_product_is_one-xor_right row c s ∙ ap (λ q. differ q (inner_product_is_one row s)) (even k l)
          ∙ sum_where-even test number row i (λ b m. h.reduced.even b m k l)

      probes_even : AreEven (bit_xor c s) probes
      probes_even a l =
          let long = h.many in
          let probe = get_or probes a 0 in
          inner_product_is_one-xor_right probe c s
          ∙ ap (differ (test a)) (sum_where-told test number probe a i (omega arith) (λ b m. h.tells a b (omega arith) m))
          ∙ twice (test a)
        where
          twice : (b : Bool) → differ b b ≡ false
          twice true = refl
          twice false = refl

      nothing : bit_xor c s ≡ 0
      nothing = h.apart (bit_xor c s) (xor_lt dim c s (small i within) s_small) rows_even probes_even

      sum : s ≡ c
      sum = sym (xor_cancel c s) ∙ ap (bit_xor c) nothing ∙ xor_zero_r c

  module _ (row : ℕ) (after probes_after : List ℕ) (taken : IsTaken rows (column (get_or X i 0)) row after)
      (told : probes_after ≡ map (evened row (column (get_or X i 0))) probes ++ row ∷ []) where
    abbrev changed : List ℕ
    changed = map (evened row (column (get_or X i 0))) probes

    length-changed : length changed ≡ i
    length-changed = length-map probes (evened row (column (get_or X i 0))) ∙ h.many

    length-after : length probes_after ≡ i + 1
    length-after = ap length told ∙ length_push changed row ∙ ap (λ n. n + 1) length-changed

    last : get_or probes_after i 0 ≡ row
    last = ap (λ xs. get_or xs i 0) told ∙ get_or_push changed row 0 i length-changed

    old : (a : ℕ) → a < i → get_or probes_after a 0 ≡ evened row (column (get_or X i 0)) (get_or probes a 0)
    old a l =
        let n = length-changed in
        let m = h.many in
        ap (λ xs. get_or xs a 0) told ∙ get_or_append_left changed (row ∷ []) 0 a (omega arith)
        ∙ get_or-map (evened row (column (get_or X i 0))) probes a 0 0 (omega arith)

    -- by whether it is an earlier place or the last
    by_place : (P : ℕ → Type 0) (a : ℕ) → a < i + 1 → ((b : ℕ) → b < i → P b) → P i → P a
    by_place P a l earlier now = elim (cases_lt a i) [ inl k ↦ earlier a k | inr k ↦ subst P (let e : i ≡ a = omega arith in e) now ]

    tells_after : (a b : ℕ) → a < i + 1 → b < i + 1 → inner_product_is_one (get_or probes_after a 0) (column (get_or X b 0)) ≡ eqb a b
    tells_after a b l m =
        let even = λ (k : ℕ) (n : k < i). taken-even rows (column (get_or X i 0)) row after taken (column (get_or X k 0)) (h.reduced.even k n) in
        by_place (λ a. inner_product_is_one (get_or probes_after a 0) (column (get_or X b 0)) ≡ eqb a b) a l
        (λ a k. ap (λ x. inner_product_is_one x (column (get_or X b 0))) (old a k)
        ∙ by_place (λ b. inner_product_is_one (evened row (column (get_or X i 0)) (get_or probes a 0)) (column (get_or X b 0)) ≡ eqb a b) b m
        (λ b n. evened-keeps row (column (get_or X i 0)) (get_or probes a 0) (column (get_or X b 0)) (even b n) ∙ h.tells a b k n)
        (evened-even row (column (get_or X i 0)) (get_or probes a 0) taken.odd ∙ sym (ne_eqb a i (omega arith))))
        (ap (λ x. inner_product_is_one x (column (get_or X b 0))) last
        ∙ by_place (λ b. inner_product_is_one row (column (get_or X b 0)) ≡ eqb i b) b m (λ b n. even b n ∙ sym (ne_eqb i b (omega arith)))
        (taken.odd ∙ sym (eq-eqb i i refl)))

    pub AreProbes-more : AreProbes dim column X (i + 1) after probes_after
    AreProbes-more =
        let v = column (get_or X i 0) in
        let n = length-after in
        let m = h.many in
        let small = taken-below rows v row after taken dim h.reduced.below in
        record {
          reduced = AreReduced-taken dim column X i rows after h.reduced row taken;
          below = λ a l. by_place (λ a. get_or probes_after a 0 < 2 ^ dim) a (omega arith)
              (λ a k. subst (λ x. x < 2 ^ dim) (sym (old a k)) (evened-below row v (get_or probes a 0) dim small (h.below a (omega arith))))
              (subst (λ x. x < 2 ^ dim) (sym last) small);
          many = length-after;
          tells = tells_after;
          apart = λ w l even probed.
              let row_even : inner_product_is_one row w ≡ false = ap (λ x. inner_product_is_one x w) (sym last) ∙ probed i (omega arith) in
              h.apart w l (were_even rows v row after taken w row_even even)
              (λ a k. sym (evened-keeps row v (get_or probes a 0) w row_even) ∙ ap (λ x. inner_product_is_one x w) (sym (old a (omega arith)))
              ∙ probed a (omega arith));
        }

-- of a linear matroid, where the column was read
pub no_row_even : (dim : ℕ) (columns X : List ℕ) (i : ℕ) (rows probes : List ℕ) (v : ℕ) → IsBinaryMatrix dim columns
    → is_gf2 (length columns) (column_of columns) X ≡ true → AreProbes dim (column_of columns) X i rows probes → i < length X
    → v ≡ column_of columns (get_or X i 0) → AreEven v rows → ⊥
no_row_even dim columns X i rows probes v sound passes h within read even =
    let column = column_of columns in
    let tests = and_parts (is_set (length columns) X) (is_linearly_independent column X) passes in
    let set = IsSet-from_test (length columns) X tests.0 in
    some_row_odd dim column X i rows probes h set.rising (IsLinearlyIndependent-from_test column X set.rising tests.1)
    (λ b l. sound.below (get_or X b 0) (below_member set (is_member-get_or X b (get_or X b 0) l refl))) within
    (subst (λ w. AreEven w rows) read even)

pub AreProbes-read : (dim : ℕ) (column : ℕ → ℕ) (X : List ℕ) (i : ℕ) (rows probes : List ℕ) (row : ℕ) (after probes_after : List ℕ) (v : ℕ)
    → AreProbes dim column X i rows probes → v ≡ column (get_or X i 0) → IsTaken rows v row after
    → probes_after ≡ map (evened row v) probes ++ row ∷ [] → AreProbes dim column X (i + 1) after probes_after
AreProbes-read dim column X i rows probes row after probes_after v h read taken told =
    AreProbes-more dim column X i rows probes h row after probes_after (subst (λ w. IsTaken rows w row after) read taken)
    (subst (λ w. probes_after ≡ map (evened row w) probes ++ row ∷ []) read told)

-- ---- the test

-- whether a number meets the column of the member at this place alone oddly
abbrev pub tells_member : (ℕ → ℕ) → List ℕ → ℕ → ℕ → Bool
tells_member column X number i =
    list_all (λ j. cond (eqb i j) (inner_product_is_one number (column (get_or X j 0))) (not (inner_product_is_one number (column (get_or X j 0))))) (all_below (length X))

-- of the columns and the members as they were read
pub tells_member-read : (columns cs X xs : List ℕ) (number i : ℕ) → cs ≡ columns → xs ≡ X
    → tells_member (column_of cs) xs number i ≡ tells_member (column_of columns) X number i
tells_member-read columns cs X xs number i same items =
    ap (λ cs. tells_member (column_of cs) xs number i) same ∙ ap (λ xs. tells_member (column_of columns) xs number i) items

-- ---- at the end

pub probes_shown : (dim : ℕ) (column : ℕ → ℕ) (X rows probes : List ℕ) → AreProbes dim column X (length X) rows probes
    → shows_probes column probes X ≡ true
probes_shown dim column X rows probes h =
    and_from (eqb (length probes) (length X)) _ (eq-eqb (length probes) (length X) h.many)
    (passes_below (length X) _ (λ i l. passes_below (length X) _ (λ j k.
    told (eqb i j) (inner_product_is_one (get_or probes i 0) (column (get_or X j 0))) (h.tells i j l k))))
  where
    told : (b m : Bool) → m ≡ b → cond b m (not m) ≡ true
    told true m e = e
    told false m e = ap not e
