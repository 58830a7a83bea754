-- Sums that stay at the end of 64 bits where they would leave them: a number to which the same is added again and again is the number with a
-- multiple added at once.
use Rattle.mat_drawing.proofs.Common.{◌≡◌, ℕ, zero, suc, ◌+◌, ◌-◌, ◌^◌, ℤ, pos, negsuc, ◌+ℤ◌, ◌*ℤ◌, ◌<ℤ◌, ◌≤ℤ◌, FitsSigned, refl, ap, sym, ◌∙◌, arith, ints, by_lt_z}
use Rattle.std.proofs.Math.IntN.{suc_ℤ-*ℤ, zero-*ℤ}
use Rattle.std.specs.Int.{w64, saturate_signed}

-- the greatest number of 64 bits, and the least
abbrev most : ℤ
most = pos (2 ^ 63 - 1)

abbrev least : ℤ
least = negsuc (2 ^ 63 - 1)

stays_high : (z : ℤ) → most ≤ℤ z → saturate_signed w64 z ≡ most
stays_high z h = grind (arith, ints)

stays_low : (z : ℤ) → z ≤ℤ least → saturate_signed w64 z ≡ least
stays_low z h = grind (arith, ints)

stays_between : (z : ℤ) → least ≤ℤ z → z ≤ℤ most → saturate_signed w64 z ≡ z
stays_between z h k = grind (arith, ints)

-- one time more
multiple_more : (n : ℕ) (d : ℤ) → pos (suc n) *ℤ d ≡ pos n *ℤ d +ℤ d
multiple_more n d = suc_ℤ-*ℤ (pos n) d

-- a multiple has the sign of what is multiplied
multiple_sign : (n : ℕ) (d : ℤ) → (pos 0 ≤ℤ d → pos 0 ≤ℤ (pos n *ℤ d)) × (d ≤ℤ pos 0 → (pos n *ℤ d) ≤ℤ pos 0)
multiple_sign zero d = (λ h. omega (arith, ints, zero-*ℤ d), λ h. omega (arith, ints, zero-*ℤ d))
multiple_sign (suc n) d =
    let before = multiple_sign n d in
    (λ h. omega (arith, ints, multiple_more n d, before.0 h), λ h. omega (arith, ints, multiple_more n d, before.1 h))

-- a sum that is at an end stays there
added_twice : (y p d : ℤ) → least ≤ℤ y → y ≤ℤ most → (pos 0 ≤ℤ d → pos 0 ≤ℤ p) → (d ≤ℤ pos 0 → p ≤ℤ pos 0)
    → saturate_signed w64 (saturate_signed w64 (y +ℤ p) +ℤ d) ≡ saturate_signed w64 (y +ℤ (p +ℤ d))
added_twice y p d low high rises falls = by_lt_z most (y +ℤ p) over (λ k. by_lt_z (y +ℤ p) least under (λ j. between j k))
  where
    at : (s t : ℤ) → saturate_signed w64 (y +ℤ p) ≡ s → s +ℤ d ≡ t → saturate_signed w64 (saturate_signed w64 (y +ℤ p) +ℤ d) ≡ saturate_signed w64 t
    at s t e f = ap (λ z. saturate_signed w64 (z +ℤ d)) e ∙ ap (saturate_signed w64) f

    over : most <ℤ (y +ℤ p) → saturate_signed w64 (saturate_signed w64 (y +ℤ p) +ℤ d) ≡ saturate_signed w64 (y +ℤ (p +ℤ d))
    over h =
        let up : pos 0 ≤ℤ d = by_lt_z d (pos 0) (λ n. let down = falls (omega (arith, ints)) in absurd (omega (arith, ints))) (λ n. n) in
        at most (most +ℤ d) (stays_high (y +ℤ p) (omega (arith, ints))) refl
        ∙ (stays_high (most +ℤ d) (omega (arith, ints)) ∙ sym (stays_high (y +ℤ (p +ℤ d)) (omega (arith, ints))))

    under : (y +ℤ p) <ℤ least → saturate_signed w64 (saturate_signed w64 (y +ℤ p) +ℤ d) ≡ saturate_signed w64 (y +ℤ (p +ℤ d))
    under h =
        let down : d ≤ℤ pos 0 = by_lt_z (pos 0) d (λ n. let up = rises (omega (arith, ints)) in absurd (omega (arith, ints))) (λ n. n) in
        at least (least +ℤ d) (stays_low (y +ℤ p) (omega (arith, ints))) refl
        ∙ (stays_low (least +ℤ d) (omega (arith, ints)) ∙ sym (stays_low (y +ℤ (p +ℤ d)) (omega (arith, ints))))

    between : least ≤ℤ (y +ℤ p) → (y +ℤ p) ≤ℤ most → saturate_signed w64 (saturate_signed w64 (y +ℤ p) +ℤ d) ≡ saturate_signed w64 (y +ℤ (p +ℤ d))
    between h k = at (y +ℤ p) (y +ℤ (p +ℤ d)) (stays_between (y +ℤ p) h k) (omega (arith, ints))

pub lowered_none : (y d : ℤ) → FitsSigned w64 y → y ≡ saturate_signed w64 (y +ℤ pos 0 *ℤ d)
lowered_none y d fits =
    let none : y +ℤ pos 0 *ℤ d ≡ y = omega (arith, ints, zero-*ℤ d) in
    sym (ap (saturate_signed w64) none ∙ stays_between y (omega (arith, ints)) (omega (arith, ints)))

pub lowered_more : (y at next d : ℤ) (n m : ℕ) → FitsSigned w64 y → at ≡ saturate_signed w64 (y +ℤ pos n *ℤ d) → m ≡ n + 1
    → next ≡ saturate_signed w64 (at +ℤ d) → next ≡ saturate_signed w64 (y +ℤ pos m *ℤ d)
lowered_more y at next d n m fits is more step =
    let sign = multiple_sign n d in
    let next_count : suc n ≡ m = omega arith in
    let once : y +ℤ (pos n *ℤ d +ℤ d) ≡ y +ℤ pos m *ℤ d = ap (λ t. y +ℤ t) (sym (multiple_more n d)) ∙ ap (λ k. y +ℤ pos k *ℤ d) next_count in
    step ∙ (ap (λ t. saturate_signed w64 (t +ℤ d)) is ∙ (added_twice y (pos n *ℤ d) d (omega (arith, ints)) (omega (arith, ints)) sign.0 sign.1 ∙ ap (saturate_signed w64) once))
