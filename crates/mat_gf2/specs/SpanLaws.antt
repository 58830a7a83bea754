-- What is left of a column by elimination is zero exactly where the column is a sum of columns of the set: elimination is linear, leaves nothing
-- of the columns of the set, and changes a column by such a sum. So a linearly independent set stays so exactly with a column outside it of which
-- something is left. The test of linear independence, a look through the subsets, holds exactly of the sets that are so.
use Rattle.std.proofs.Common.{◌≡◌, ℕ, ◌≢◌, Bool, ◌&&◌, length, true, false, not, eqb, ltb, List, [], ◌∷◌, inl, inr, refl, sym, ap, ◌∙◌, subst, arith}
use Rattle.std.proofs.lemmas.Bool.{cases_Bool, eqb-true, eqb-false, eq-eqb, ne_eqb, or_cases, or_right, or_parts, and_parts, and_from, false≢true, both_ways, not-true, false_from_ne_true}
use Rattle.std.specs.Int.Bits.{bit_xor, xor_self, xor_zero_l, xor_zero_r, xor_assoc}
use Rattle.std.proofs.lemmas.Nat.{xor_comm}
use Rattle.mat_sets.specs.Sets.{is_member, IsRising, IsSubset, rising_insert, with_one, without_one}
use Rattle.mat_sets.proofs.Members.{set_members, is_member-head, IsRising-nil, IsRising-with_one, IsRising-without_one}
use Rattle.mat_sets.proofs.Subsets.{IsSubset-trans, with_one-IsSubset, without_one-IsSubset}
use Rattle.mat_sets.proofs.Changes.{with_one-returned}
use Rattle.mat_sets.specs.Search.{some_subset}
use Rattle.mat_sets.proofs.Search.{some_subset_gives, some_subset_none}
use Rattle.mat_gf2.specs.Columns.{xor_of, IsLinearlyIndependent, is_linearly_independent}
use Rattle.mat_gf2.specs.Eliminations.{reduced, remainder}
use Rattle.mat_gf2.specs.LeadingBitLaws.{reduced-xor, reduced-zero, reduced-self, xor_cancel}

-- a rising sublist of X whose columns have the exclusive-or v
pub record InSpan (column : ℕ → ℕ) (X : List ℕ) (v : ℕ) : Type 0 where
  pub part : List ℕ
  pub rising : IsRising part
  pub inside : IsSubset part X
  pub sum : xor_of column part ≡ v

pub tail-IsSubset : (x : ℕ) (X : List ℕ) → IsSubset X (x ∷ X)
tail-IsSubset x X = record { inside = λ z m. or_right (eqb z x) (is_member z X) m }

not_empty : (x : ℕ) (s : List ℕ) → is_member x s ≡ true → s ≢ []
not_empty x s h q = false≢true (sym (ap (is_member x) q) ∙ h)

module _ (column : ℕ → ℕ) where
  -- ---- sums of columns

  xor_of-rising_insert : (x : ℕ) (s : List ℕ) → is_member x s ≡ false
      → xor_of column (rising_insert x s) ≡ bit_xor (column x) (xor_of column s)
  xor_of-rising_insert x [] h = refl
  xor_of-rising_insert x (y ∷ s) h = let parts = or_parts (eqb x y) (is_member x s) h in
      elim (cases_Bool (ltb x y)) [
        | inl a ↦ rw a refl
        | inr a ↦ rw a (rw parts.0 (ap (bit_xor (column y)) (xor_of-rising_insert x s parts.1) ∙ past (column y) (column x) (xor_of column s)))
      ]
    where
      past : (a b c : ℕ) → bit_xor a (bit_xor b c) ≡ bit_xor b (bit_xor a c)
      past a b c = sym (xor_assoc a b c) ∙ ap (λ z. bit_xor z c) (xor_comm a b) ∙ xor_assoc b a c

  xor_of-with_one : (s : List ℕ) (x : ℕ) → is_member x s ≡ false → xor_of column (with_one s x) ≡ bit_xor (column x) (xor_of column s)
  unfolding with_one
  xor_of-with_one s x h = xor_of-rising_insert x s h

  pub xor_of-without_one : (s : List ℕ) (x : ℕ) → IsRising s → is_member x s ≡ true
      → xor_of column (without_one s x) ≡ bit_xor (column x) (xor_of column s)
  xor_of-without_one s x r h =
      let out : is_member x (without_one s x) ≡ false = grind (arith, set_members) in
      sym (xor_cancel (column x) (xor_of column (without_one s x)))
      ∙ ap (bit_xor (column x)) (sym (xor_of-with_one (without_one s x) x out) ∙ ap (xor_of column) (with_one-returned s x r h))

  -- ---- spans

  in_span-zero : (X : List ℕ) → InSpan column X 0
  in_span-zero X = record { part = []; rising = IsRising-nil; inside = record { inside = λ z k. absurd (false≢true k) }; sum = refl }

  pub in_span-subset : (X Y : List ℕ) (v : ℕ) → IsSubset X Y → InSpan column X v → InSpan column Y v
  in_span-subset X Y v h s = record { part = s.part; rising = s.rising; inside = IsSubset-trans s.part X Y s.inside h; sum = s.sum }

  -- a column more: where it is in the sublist it is taken out
  pub in_span-column : (X : List ℕ) (x v : ℕ) → is_member x X ≡ true → InSpan column X v → InSpan column X (bit_xor (column x) v)
  in_span-column X x v m s = elim (cases_Bool (is_member x s.part)) [
    | inl h ↦ record {
      part = without_one s.part x;
      rising = IsRising-without_one s.part x s.rising;
      inside = IsSubset-trans _ s.part X (without_one-IsSubset s.part x) s.inside;
      sum = xor_of-without_one s.part x s.rising h ∙ ap (bit_xor (column x)) s.sum;
    }
    | inr h ↦ record {
      part = with_one s.part x;
      rising = IsRising-with_one s.part x s.rising;
      inside = with_one-IsSubset s.part X x s.inside m;
      sum = xor_of-with_one s.part x h ∙ ap (bit_xor (column x)) s.sum;
    }
  ]

  in_span-list : (X t : List ℕ) (v : ℕ) → IsSubset t X → InSpan column X v → InSpan column X (bit_xor (xor_of column t) v)
  in_span-list X [] v h s = subst (InSpan column X) (sym (xor_zero_l v)) s
  in_span-list X (x ∷ t) v h s =
      subst (InSpan column X) (sym (xor_assoc (column x) (xor_of column t) v))
      (in_span-column X x (bit_xor (xor_of column t) v) (h.inside x (is_member-head x t))
      (in_span-list X t v (IsSubset-trans t (x ∷ t) X (tail-IsSubset x t) h) s))

  in_span-xor : (X : List ℕ) (v w : ℕ) → InSpan column X v → InSpan column X w → InSpan column X (bit_xor v w)
  in_span-xor X v w a b = subst (λ z. InSpan column X (bit_xor z w)) a.sum (in_span-list X a.part w a.inside b)

  -- ---- elimination

  -- it is linear
  pub remainder-xor : (X : List ℕ) (v w : ℕ) → remainder column X (bit_xor v w) ≡ bit_xor (remainder column X v) (remainder column X w)
  unfolding remainder
  remainder-xor [] v w = refl
  remainder-xor (e ∷ X) v w =
      ap (λ z. reduced z (remainder column X (column e))) (remainder-xor X v w)
      ∙ reduced-xor (remainder column X v) (remainder column X w) (remainder column X (column e))

  remainder-zero : (X : List ℕ) → remainder column X 0 ≡ 0
  unfolding remainder
  remainder-zero [] = refl
  remainder-zero (e ∷ X) = ap (λ z. reduced z (remainder column X (column e))) (remainder-zero X) ∙ reduced-zero (remainder column X (column e))

  -- it leaves nothing of the columns of the set
  pub remainder-own : (X : List ℕ) (x : ℕ) → is_member x X ≡ true → remainder column X (column x) ≡ 0
  unfolding remainder
  remainder-own [] x h = absurd (false≢true h)
  remainder-own (e ∷ X) x h = elim (or_cases (eqb x e) (is_member x X) h) [
    | inl a ↦ ap (λ z. reduced (remainder column X (column z)) (remainder column X (column e))) (eqb-true x e a)
        ∙ reduced-self (remainder column X (column e))
    | inr a ↦ ap (λ z. reduced z (remainder column X (column e))) (remainder-own X x a) ∙ reduced-zero (remainder column X (column e))
  ]

  -- nor of a sum of columns of which it leaves nothing
  pub remainder-sum : (X s : List ℕ) → ((x : ℕ) → is_member x s ≡ true → remainder column X (column x) ≡ 0)
      → remainder column X (xor_of column s) ≡ 0
  remainder-sum X [] h = remainder-zero X
  remainder-sum X (x ∷ s) h =
      remainder-xor X (column x) (xor_of column s)
      ∙ ap (λ z. bit_xor z (remainder column X (xor_of column s))) (h x (is_member-head x s))
      ∙ xor_zero_l (remainder column X (xor_of column s)) ∙ remainder-sum X s (λ y k. h y (or_right (eqb y x) (is_member y s) k))

  -- v and what is left of it differ by a sum of columns
  pub remainder-in_span : (X : List ℕ) (v : ℕ) → InSpan column X (bit_xor v (remainder column X v))
  unfolding remainder
  remainder-in_span [] v = subst (InSpan column []) (sym (xor_self v)) (in_span-zero [])
  remainder-in_span (e ∷ X) v =
      let u = remainder column X v in
      let b = remainder column X (column e) in
      let more = λ (w : ℕ). in_span-subset X (e ∷ X) (bit_xor w (remainder column X w)) (tail-IsSubset e X) (remainder-in_span X w) in
      elim (cases_Bool (ltb (bit_xor u b) u)) [
        | inr h ↦ rw h (more v)
        | inl h ↦ rw h (subst (InSpan column (e ∷ X)) (xor_assoc v u b)
            (in_span-xor (e ∷ X) (bit_xor v u) b (more v)
            (subst (InSpan column (e ∷ X)) (xor_cancel (column e) b)
            (in_span-column (e ∷ X) e (bit_xor (column e) b) (is_member-head e X) (more (column e))))))
      ]

  -- a column of which nothing is left is a sum of columns
  pub in_span-from_remainder : (X : List ℕ) (v : ℕ) → remainder column X v ≡ 0 → InSpan column X v
  in_span-from_remainder X v nothing = subst (InSpan column X) (ap (bit_xor v) nothing ∙ xor_zero_r v) (remainder-in_span X v)

  -- ---- linearly independent sets

  pub IsLinearlyIndependent-subset : (X Y : List ℕ) → IsSubset X Y → IsLinearlyIndependent column Y → IsLinearlyIndependent column X
  IsLinearlyIndependent-subset X Y s f = record { nonzero = λ t r ins. f.nonzero t r (IsSubset-trans t X Y ins s) }

  -- a linearly independent set stays so with a column of which something is left
  pub IsLinearlyIndependent-more : (X : List ℕ) (e : ℕ) (Y : List ℕ) → IsLinearlyIndependent column X → remainder column X (column e) ≢ 0
      → ((z : ℕ) → is_member z Y ≡ true → eqb z e ≡ false → is_member z X ≡ true) → IsLinearlyIndependent column Y
  IsLinearlyIndependent-more X e Y f ne sub = record {
    nonzero = λ s r ins some zero. elim (cases_Bool (is_member e s)) [
      | inr out ↦ f.nonzero s r (record {
        inside = λ z k. sub z (ins.inside z k)
            (ne_eqb z e (λ q. both_ways _ out (ap (λ w. is_member w s) (sym q) ∙ k)));
      }) some zero
      | inl here ↦ ne (ap (remainder column X)
          (sym (xor_zero_r (column e)) ∙ ap (bit_xor (column e)) (sym zero) ∙ sym (xor_of-without_one s e r here))
          ∙ remainder-sum X (without_one s e) (others s ins))
    ];
  }
    where
      others : (s : List ℕ) → IsSubset s Y → (x : ℕ) → is_member x (without_one s e) ≡ true → remainder column X (column x) ≡ 0
      others s ins x k =
          let m : is_member x s ≡ true = (without_one-IsSubset s e).inside x k in
          let differ : eqb x e ≡ false = grind (arith, set_members) in
          remainder-own X x (sub x (ins.inside x m) differ)

  -- a column outside that a sublist makes stands with it in no linearly independent set
  pub dependent-with_sum : (X Y : List ℕ) (x : ℕ) → is_member x X ≡ false → InSpan column X (column x) → is_member x Y ≡ true
      → IsSubset X Y
      → IsLinearlyIndependent column Y → ⊥
  dependent-with_sum X Y x o s m h f =
      let out : is_member x s.part ≡ false = false_from_ne_true _ (λ k. both_ways _ o (s.inside.inside x k)) in
      let here : is_member x (with_one s.part x) ≡ true = grind (arith, set_members) in
      f.nonzero (with_one s.part x) (IsRising-with_one s.part x s.rising)
      (with_one-IsSubset s.part Y x (IsSubset-trans s.part X Y s.inside h) m)
      (not_empty x (with_one s.part x) here)
      (xor_of-with_one s.part x out ∙ ap (bit_xor (column x)) s.sum ∙ xor_self (column x))

  -- so something is left of a column outside a set with which it is linearly independent
  pub left_of_independent : (X : List ℕ) (e : ℕ) → is_member e X ≡ false → IsLinearlyIndependent column (e ∷ X)
      → remainder column X (column e) ≢ 0
  left_of_independent X e out f nothing =
      dependent-with_sum X (e ∷ X) e out (in_span-from_remainder X (column e) nothing) (is_member-head e X) (tail-IsSubset e X) f

  -- ---- the test and its sentence

  -- whether a subset is not empty and its columns have the sum zero
  abbrev against : List ℕ → Bool
  against s = not (eqb (length s) 0) && eqb (xor_of column s) 0

  pub IsLinearlyIndependent-from_test : (X : List ℕ) → IsRising X → is_linearly_independent column X ≡ true → IsLinearlyIndependent column X
  unfolding is_linearly_independent
  IsLinearlyIndependent-from_test X r h = record {
    nonzero = λ s q ins some zero. both_ways (against s) (some_subset_none X s against (not-true _ h) r q ins)
        (and_from (not (eqb (length s) 0)) (eqb (xor_of column s) 0) (ap not (has_members s some)) (eq-eqb _ _ zero));
  }
    where
      has_members : (s : List ℕ) → s ≢ [] → eqb (length s) 0 ≡ false
      has_members [] some = absurd (some refl)
      has_members (x ∷ s) some = ne_eqb (length (x ∷ s)) 0 (omega arith)

  pub test_from-IsLinearlyIndependent : (X : List ℕ) → IsRising X → IsLinearlyIndependent column X → is_linearly_independent column X ≡ true
  unfolding is_linearly_independent
  test_from-IsLinearlyIndependent X r f = elim (cases_Bool (some_subset X against)) [
    | inl h ↦ (let w = some_subset_gives X against r h in
        let parts = and_parts (not (eqb (length w.0) 0)) (eqb (xor_of column w.0) 0) w.3 in
        absurd (f.nonzero w.0 w.1 w.2 (λ q. eqb-false _ _ (not-true _ parts.0) (ap length q)) (eqb-true _ _ parts.1)))
    | inr h ↦ ap not h
  ]

  -- an independent set with one more column of which something is left, by the test
  pub test_with_one : (X : List ℕ) (x : ℕ) → IsRising X → is_linearly_independent column X ≡ true → remainder column X (column x) ≢ 0
      → is_linearly_independent column (with_one X x) ≡ true
  test_with_one X x r f ne =
      test_from-IsLinearlyIndependent (with_one X x) (IsRising-with_one X x r)
      (IsLinearlyIndependent-more X x (with_one X x) (IsLinearlyIndependent-from_test X r f) ne (λ z m o. others z m o))
    where
      others : (z : ℕ) → is_member z (with_one X x) ≡ true → eqb z x ≡ false → is_member z X ≡ true
      others z m o = grind (arith, set_members)
