-- Parity checks of the span of a basis. The transpose of reduction by a row makes of the transpose of reduction by the later rows that of
-- reduction by that row and these; and a column that fails a check is outside the span.
use Rattle.mat_gf2.proofs.Common.{◌≡◌, ℕ, ◌+◌, ◌-◌, ◌*◌, ◌^◌, ◌<◌, ◌≤◌, Bool, true, false, eqb, ltb, List, [], ◌∷◌, All, length, get_or, drop, inl, inr, refl, sym, ap, ◌∙◌, subst, arith, cases_Bool, cases_lt, false≢true, drop_all, drop_more, TaggedColumn, reduced, inner_product_is_one, IsLeadingBit}
use Rattle.mat_gf2.proofs.Common.{bit_cases, reduced-set, reduced-clear, reduced_tagged, reduced_tagged_by, IsParityCheck, IsTransposed}
use Rattle.std.proofs.lemmas.List.Elements.{All-weaker}
use Rattle.std.proofs.lemmas.List.Folds.{list_any_none}
use Rattle.std.proofs.Math.Nat.{pow-suc}
use Rattle.std.specs.Int.{bit_at}
use Rattle.std.specs.Int.Bits.{bit_xor}
use Rattle.std.specs.List.{list_any}
use Rattle.mat_gf2.proofs.InnerProducts.{differ, inner_product_is_one-xor, inner_product_is_one-xor_right, inner_product_is_one-zero_right, inner_product_is_one-power}
use Rattle.mat_gf2.proofs.Tags.{reduced_tagged-column}

-- ---- the transpose of reduction by a row

-- a number with which another has the inner product one is not zero
pub positive_from_product : (check v : ℕ) → inner_product_is_one check v ≡ true → 0 < v
positive_from_product check v odd = elim (cases_lt 0 v) [
  | inl l ↦ l
  | inr l ↦ absurd (let none : v ≡ 0 = omega arith in
      false≢true (sym (inner_product_is_one-zero_right check) ∙ ap (inner_product_is_one check) (sym none) ∙ odd))
]

differ-none : (b : Bool) → differ b false ≡ b
differ-none true = refl
differ-none false = refl

leading_bit-from_powers : (v q : ℕ) → 2 ^ q ≤ v → v < 2 * 2 ^ q → IsLeadingBit v q
leading_bit-from_powers v q low high = record { low = low; high = (let step = pow-suc 2 q in omega arith) }

module _ (check row : ℕ) where
  -- of a check that the row passes
  pub transposed-passed : inner_product_is_one check row ≡ false → (v : ℕ)
      → inner_product_is_one check v ≡ inner_product_is_one check (reduced v row)
  transposed-passed even v = elim (cases_Bool (ltb (bit_xor v row) v)) [
    | inl e ↦ rw e (sym (inner_product_is_one-xor_right check v row ∙ ap (differ (inner_product_is_one check v)) even
        ∙ differ-none (inner_product_is_one check v)))
    | inr e ↦ rw e refl
  ]

  failed-at : (place : ℕ) → IsLeadingBit row place → inner_product_is_one check row ≡ true → (v : ℕ)
      → differ (inner_product_is_one check v) (eqb (bit_at v place) 1) ≡ inner_product_is_one check (reduced v row)
  failed-at place t odd v = elim (bit_cases v place) [
    | inl set ↦ ap (λ b. differ (inner_product_is_one check v) (eqb b 1)) set ∙ ap (differ (inner_product_is_one check v)) (sym odd)
        ∙ sym (inner_product_is_one-xor_right check v row) ∙ ap (inner_product_is_one check) (sym (reduced-set v row place t set))
    | inr clear ↦ ap (λ b. differ (inner_product_is_one check v) (eqb b 1)) clear ∙ differ-none (inner_product_is_one check v)
        ∙ ap (inner_product_is_one check) (sym (reduced-clear v row place t clear))
  ]

  -- of a check that the row, whose highest bit is at the place, fails
  pub transposed-failed : (place : ℕ) → 2 ^ place ≤ row → row < 2 * 2 ^ place → inner_product_is_one check row ≡ true → (v : ℕ)
      → inner_product_is_one (bit_xor check (2 ^ place)) v ≡ inner_product_is_one check (reduced v row)
  transposed-failed place low high odd v =
      inner_product_is_one-xor check (2 ^ place) v
      ∙ ap (differ (inner_product_is_one check v)) (inner_product_is_one-power place v)
      ∙ failed-at place (leading_bit-from_powers row place low high) odd v

-- ---- from the last row to the first

-- no row leaves each column as it is
pub IsTransposed-start : (basis : List TaggedColumn) (count start : ℕ) → count ≡ length basis → IsTransposed (drop count basis) start start
IsTransposed-start basis count start same =
    subst (λ rows. IsTransposed rows start start) (sym (drop_all count basis (omega arith))) none
  where
    none : IsTransposed [] start start
    none = record { same = λ v. refl }

-- the row before a place
pub IsTransposed-more : (basis : List TaggedColumn) (d : TaggedColumn) (place start check new : ℕ) → 0 < place → place ≤ length basis
    → ((v : ℕ) → inner_product_is_one new v ≡ inner_product_is_one check (reduced v (get_or basis (place - 1) d).column))
    → IsTransposed (drop place basis) start check → IsTransposed (drop (place - 1) basis) start new
IsTransposed-more basis d place start check new some within told h =
    let row = get_or basis (place - 1) d in
    let next : place - 1 + 1 ≡ place = omega arith in
    let before : drop (place - 1) basis ≡ row ∷ drop place basis =
    drop_more basis (place - 1) d (omega arith) ∙ ap (λ k. row ∷ drop k basis) next in
    subst (λ rows. IsTransposed rows start new) (sym before) (record {
      same = λ v. told v.column ∙ ap (inner_product_is_one check) (sym (reduced_tagged-column v row)) ∙ h.same (reduced_tagged v row);
    })

-- a column of which nothing is left passes what was transposed
pub IsTransposed-check : (basis : List TaggedColumn) (start check : ℕ) → IsTransposed basis start check → IsParityCheck basis check
IsTransposed-check basis start check h = record {
  passes = λ v nothing. h.same v ∙ ap (inner_product_is_one start) nothing ∙ inner_product_is_one-zero_right start;
}

-- ---- outside the span

-- something is left of a column that fails a check
pub left_of_failing : (basis : List TaggedColumn) (checks : List ℕ) (v : TaggedColumn) → All (IsParityCheck basis) checks
    → list_any (λ check. inner_product_is_one check v.column) checks ≡ true → (reduced_tagged_by basis v).column ≡ 0 → ⊥
left_of_failing basis checks v right fails nothing =
    false≢true (sym (list_any_none (λ check. inner_product_is_one check v.column) checks
    (All-weaker (IsParityCheck basis) (λ check. inner_product_is_one check v.column ≡ false) (λ check h. h.passes v nothing) checks right))
    ∙ fails)
