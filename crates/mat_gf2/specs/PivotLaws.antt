-- The pivots of a set of columns are the highest bits of what is left of each by elimination with those after it. An independent set has as many
-- pivots as members, and each pivot is the highest bit of a sum of its columns. Where elimination with I leaves nothing of the columns of J, the
-- pivots of J are pivots of I; so J, if independent, is no larger than I.
use Rattle.std.proofs.Common.{◌≡◌, ℕ, suc, ◌<◌, ◌≤◌, ◌≢◌, true, false, cond, eqb, List, [], ◌∷◌, length, ◌⊎◌, inl, inr, refl, sym, ap, ◌∙◌, subst, arith}
use Rattle.std.proofs.lemmas.Bool.{cases_Bool, cases_lt, eqb-true, eqb-false, ne_eqb, or_cases, or_parts, false≢true, false_from_ne_true}
use Rattle.std.proofs.lemmas.Nat.Bits.{bit_at-zero}
use Rattle.std.specs.Int.{bit_at}
use Rattle.std.specs.Int.Bits.{bit_xor}
use Rattle.mat_sets.specs.Sets.{is_member, IsRising, RisesFrom, IsSubset, with_one}
use Rattle.mat_sets.proofs.Members.{is_member-head, is_member-with_one, IsRising-nil, IsRising-with_one, missing_below}
use Rattle.mat_sets.proofs.Subsets.{length-subset}
use Rattle.mat_sets.proofs.Cardinalities.{length-with_one}
use Rattle.mat_gf2.specs.Columns.{IsLinearlyIndependent}
use Rattle.mat_gf2.specs.Eliminations.{reduced, remainder}
use Rattle.mat_gf2.specs.LeadingBitLaws.{IsLeadingBit, leading_bit, leading_bit-is, leading_bit-set, reduced-by_zero, reduced-keeps_clear, reduced-clears, reduced-keeps_leading_bit, xor_cancel}
use Rattle.mat_gf2.specs.SpanLaws.{InSpan, tail-IsSubset, in_span-subset, in_span-column, remainder-in_span, remainder-sum, IsLinearlyIndependent-subset, left_of_independent}

positive : (v : ℕ) → v ≢ 0 → 0 < v
positive v d = elim (cases_lt 0 v) [ inl l ↦ l | inr l ↦ absurd (d (omega arith)) ]

module _ (column : ℕ → ℕ) where
  -- the places of the highest bits of what is left
  unfoldable pub pivots : List ℕ → List ℕ
  pivots [] = []
  pivots (e ∷ X) = cond (eqb (remainder column X (column e)) 0) (pivots X) (with_one (pivots X) (leading_bit (remainder column X (column e))))

  pub IsRising-pivots : (X : List ℕ) → IsRising (pivots X)
  unfolding pivots
  IsRising-pivots [] = IsRising-nil
  IsRising-pivots (e ∷ X) = elim (cases_Bool (eqb (remainder column X (column e)) 0)) [
    | inl s ↦ rw s (IsRising-pivots X)
    | inr s ↦ rw s (IsRising-with_one (pivots X) (leading_bit (remainder column X (column e))) (IsRising-pivots X))
  ]

  pub no_pivot : (q : ℕ) → is_member q (pivots []) ≡ true → ⊥
  unfolding pivots
  no_pivot q h = false≢true h

  -- a pivot of a set with one more column
  abbrev Pivot : ℕ → List ℕ → ℕ → Type 0
  Pivot e X p = ((eqb (remainder column X (column e)) 0 ≡ false) × (p ≡ leading_bit (remainder column X (column e))))
      ⊎ (is_member p (pivots X) ≡ true)

  pub pivot-cases : (e : ℕ) (X : List ℕ) (p : ℕ) → is_member p (pivots (e ∷ X)) ≡ true → Pivot e X p
  unfolding pivots
  pivot-cases e X p h = elim (cases_Bool (eqb (remainder column X (column e)) 0)) [
    | inl s ↦ inr (rw s at h)
    | inr s ↦ (let b = leading_bit (remainder column X (column e)) in
        let k : is_member p (with_one (pivots X) b) ≡ true = rw s at h in
        elim (or_cases (eqb p b) (is_member p (pivots X))
        (sym (is_member-with_one p b (pivots X)) ∙ k)) [ inl q ↦ inl (s, eqb-true p b q) | inr q ↦ inr q ])
  ]

  -- what is left has no pivot set
  remainder-clear : (X : List ℕ) (v p : ℕ) → is_member p (pivots X) ≡ true → bit_at (remainder column X v) p ≡ 0
  unfolding remainder
  remainder-clear [] v p h = absurd (no_pivot p h)
  remainder-clear (e ∷ X) v p h = elim (pivot-cases e X p h) [
    | inl q ↦ subst (λ k. bit_at (reduced (remainder column X v) (remainder column X (column e))) k ≡ 0) (sym q.1)
        (reduced-clears (remainder column X v) (remainder column X (column e)) _ (leading_bit-is _ (positive _ (eqb-false _ _ q.0))))
    | inr m ↦ reduced-keeps_clear (remainder column X v) (remainder column X (column e)) p (remainder-clear X v p m)
        (remainder-clear X (column e) p m)
  ]

  length-pivots_from : (lo : ℕ) (X : List ℕ) → RisesFrom lo X → IsLinearlyIndependent column X → length (pivots X) ≡ length X
  unfolding pivots
  length-pivots_from lo [] r f = refl
  length-pivots_from lo (e ∷ X) r f =
      let b = remainder column X (column e) in
      let some = left_of_independent column X e (missing_below e (suc e) X (omega arith) r.1) f in
      let set = leading_bit-set b (leading_bit b) (leading_bit-is b (positive b some)) in
      let new : is_member (leading_bit b) (pivots X) ≡ false =
      false_from_ne_true _ (λ m. let clear = remainder-clear X (column e) (leading_bit b) m in omega arith) in
      let rest = length-pivots_from (suc e) X r.1 (IsLinearlyIndependent-subset column X (e ∷ X) (tail-IsSubset e X) f) in
      rw (ne_eqb b 0 some) (length-with_one (pivots X) (leading_bit b) (IsRising-pivots X) new ∙ ap suc rest)

  -- as many as members
  pub length-pivots : (X : List ℕ) → IsRising X → IsLinearlyIndependent column X → length (pivots X) ≡ length X
  length-pivots X r f = length-pivots_from 0 X r.rises f

  -- a highest bit that is no pivot is left
  remainder-keeps_leading_bit : (X : List ℕ) (v q : ℕ) → is_member q (pivots X) ≡ false → IsLeadingBit v q
      → IsLeadingBit (remainder column X v) q
  unfolding remainder pivots
  remainder-keeps_leading_bit [] v q h t = t
  remainder-keeps_leading_bit (e ∷ X) v q h t = elim (cases_Bool (eqb (remainder column X (column e)) 0)) [
    | inl s ↦ (let k : is_member q (pivots X) ≡ false = rw s at h in
        let kept = remainder-keeps_leading_bit X v q k t in
        subst (λ z. IsLeadingBit (reduced (remainder column X v) z) q) (sym (eqb-true _ _ s))
        (subst (λ z. IsLeadingBit z q) (sym (reduced-by_zero (remainder column X v))) kept))
    | inr s ↦ (let b = remainder column X (column e) in
        let k : is_member q (with_one (pivots X) (leading_bit b)) ≡ false = rw s at h in
        let parts = or_parts (eqb q (leading_bit b)) (is_member q (pivots X)) (sym (is_member-with_one q (leading_bit b) (pivots X)) ∙ k) in
        reduced-keeps_leading_bit (remainder column X v) b (leading_bit b) q (leading_bit-is b (positive b (eqb-false _ _ s)))
        (remainder-keeps_leading_bit X v q parts.1 t) (eqb-false _ _ parts.0))
  ]

  -- each pivot is the highest bit of a sum of columns
  sum_of_pivot : (X : List ℕ) (q : ℕ) → is_member q (pivots X) ≡ true → (v : ℕ) × InSpan column X v × IsLeadingBit v q
  sum_of_pivot [] q h = absurd (no_pivot q h)
  sum_of_pivot (e ∷ X) q h =
      let more = λ (v : ℕ) (s : InSpan column X v). in_span-subset column X (e ∷ X) v (tail-IsSubset e X) s in
      let b = remainder column X (column e) in
      elim (pivot-cases e X q h) [
        | inl p ↦ (
          b,
          subst (InSpan column (e ∷ X)) (xor_cancel (column e) b)
              (in_span-column column (e ∷ X) e (bit_xor (column e) b) (is_member-head e X) (more _ (remainder-in_span column X (column e)))),
          subst (IsLeadingBit b) (sym p.1) (leading_bit-is b (positive b (eqb-false _ _ p.0))),
        )
        | inr m ↦ (let w = sum_of_pivot X q m in (w.0, more w.0 w.1, w.2))
      ]

  pivots-IsSubset : (I J : List ℕ) → ((e : ℕ) → is_member e J ≡ true → remainder column I (column e) ≡ 0)
      → IsSubset (pivots J) (pivots I)
  pivots-IsSubset I J h = record {
    inside = λ q m. elim (cases_Bool (is_member q (pivots I))) [
      | inl k ↦ k
      | inr k ↦ absurd (let w = sum_of_pivot J q m in
          let left = remainder-keeps_leading_bit I w.0 q k w.2 in
          let none : remainder column I w.0 ≡ 0 =
          ap (remainder column I) (sym w.1.sum) ∙ remainder-sum column I w.1.part (λ x n. h x (w.1.inside.inside x n)) in
          let set = leading_bit-set (remainder column I w.0) q left in
          let clear = ap (λ z. bit_at z q) none ∙ bit_at-zero q in
          omega arith)
    ];
  }

  -- where nothing is left of the columns of J after elimination with I, J is no larger
  pub length-spanned : (I J : List ℕ) → IsRising I → IsRising J → IsLinearlyIndependent column I → IsLinearlyIndependent column J
      → ((e : ℕ) → is_member e J ≡ true → remainder column I (column e) ≡ 0) → length J ≤ length I
  length-spanned I J r s i j h =
      let less = length-subset (pivots J) (pivots I) (IsRising-pivots J) (IsRising-pivots I) (pivots-IsSubset I J h) in
      let a = length-pivots I r i in
      let b = length-pivots J s j in
      omega arith
