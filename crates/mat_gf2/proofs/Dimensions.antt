-- A linearly independent set has no more members than a column has entries: its pivots are places of entries.
use Rattle.mat_gf2.proofs.Common.{◌≡◌, ℕ, ◌<◌, ◌≤◌, ◌≢◌, ◌^◌, true, eqb, ltb, List, [], ◌∷◌, length, inl, inr, arith, cases_Bool, cases_lt, eqb-false, ltb-true, and_parts, or_right, is_member, is_set, is_member-head, IsSet-from, IsSet-length, below_member, IsSet-from_test, is_linearly_independent}
use Rattle.mat_gf2.proofs.Common.{is_gf2, column_of, IsBinaryMatrix, reduced, remainder, IsLinearlyIndependent-from_test, leading_bit, leading_bit-is, pow-le}
use Rattle.std.specs.Int.Bits.{bit_xor}
use Rattle.mat_gf2.specs.PivotLaws.{pivots, no_pivot, IsRising-pivots, pivot-cases, length-pivots}

reduced-le : (v b : ℕ) → reduced v b ≤ v
reduced-le v b = elim (cases_Bool (ltb (bit_xor v b) v)) [
  | inl e ↦ rw e (let less = ltb-true (bit_xor v b) v e in omega arith)
  | inr e ↦ rw e (omega arith)
]

remainder-le : (column : ℕ → ℕ) (X : List ℕ) (v : ℕ) → remainder column X v ≤ v
unfolding remainder
remainder-le column [] v = omega arith
remainder-le column (e ∷ X) v = let a = remainder-le column X v in let b = reduced-le (remainder column X v)
    (remainder column X (column e)) in omega arith

leading_bit-below : (v d : ℕ) → v ≢ 0 → v < 2 ^ d → leading_bit v < d
leading_bit-below v d some l = elim (cases_lt (leading_bit v) d) [
  | inl a ↦ a
  | inr a ↦ absurd (let low = (leading_bit-is v (omega arith)).low in let more = pow-le d (leading_bit v) a in omega arith)
]

pivots-below : (column : ℕ → ℕ) (d : ℕ) (X : List ℕ) → ((e : ℕ) → is_member e X ≡ true → column e < 2 ^ d) → (q : ℕ)
    → is_member q (pivots column X) ≡ true → q < d
pivots-below column d [] below q h = absurd (no_pivot column q h)
pivots-below column d (e ∷ X) below q h = elim (pivot-cases column e X q h) [
  | inl p ↦ (let own = below e (is_member-head e X) in
      let less = remainder-le column X (column e) in
      let bit = leading_bit-below (remainder column X (column e)) d (eqb-false _ _ p.0) (omega arith) in
      let same = p.1 in
      omega arith)
  | inr m ↦ pivots-below column d X (λ f k. below f (or_right (eqb f e) (is_member f X) k)) q m
]

pub independent-few : (dim : ℕ) (columns X : List ℕ) → IsBinaryMatrix dim columns → is_gf2 (length columns) (column_of columns) X ≡ true
    → length X ≤ 128
independent-few dim columns X sound passes =
    let column = column_of columns in
    let tests = and_parts (is_set (length columns) X) (is_linearly_independent column X) passes in
    let set = IsSet-from_test (length columns) X tests.0 in
    let below = λ (e : ℕ) (m : is_member e X ≡ true). sound.below e (below_member set m) in
    let few = IsSet-length dim (pivots column X) (IsSet-from dim (pivots column X) (IsRising-pivots column X) (pivots-below column dim X below)) in
    let many = length-pivots column X set.rising (IsLinearlyIndependent-from_test column X set.rising tests.1) in
    let most = sound.most in
    omega arith
