-- The halves of the splits of the rungs, read from their list, are in range.
use Rattle.mat_check.proofs.Common.{◌≡◌, ℕ, zero, suc, ◌<◌, List, [], ◌∷◌, length, Some, slice_get, eqb, false, inl, inr, refl, sym, ap, subst, arith, both_ways, cases_eq, eq-eqb, none-some, same_Some, AreRangedRungs, IsRangedPricedRung, IsRangedPart, PricedRung, half_of, halves_of, half_at, Side}
use Rattle.mat_check.specs.declared.ladder.halves.Side.TheVariants.{First, Second}

pub half_at-read : (side : Side) (rungs : List PricedRung) (k : ℕ) (rung : PricedRung) → slice_get rungs k ≡ Some rung
    → half_at (halves_of side rungs) k ≡ half_of side rung
half_at-read side [] k rung at = absurd (none-some rung at)
half_at-read side (first ∷ rungs) zero rung at = ap (half_of side) (same_Some first rung at)
half_at-read side (first ∷ rungs) (suc k) rung at = half_at-read side rungs k rung at

pub there : (rungs : List PricedRung) (k : ℕ) → k < length rungs → (rung : PricedRung) × (slice_get rungs k ≡ Some rung)
there [] k h = absurd (omega arith)
there (rung ∷ rungs) zero h = (rung, refl)
there (rung ∷ rungs) (suc k) h = there rungs k (omega arith)

pub half_of_ranged : (side : Side) (n k : ℕ) (rung : PricedRung) → IsRangedPricedRung n k rung → IsRangedPart n (half_of side rung)
half_of_ranged First n k rung r = r.1
half_of_ranged Second n k rung r = r.2

pub half_ranged : (side : Side) (n m : ℕ) (rungs : List PricedRung) → AreRangedRungs (IsRangedPricedRung n) n rungs → n ≡ m
    → (k : ℕ) → k < length rungs → IsRangedPart m (half_at (halves_of side rungs) k)
half_ranged side n m rungs ranged same k inside =
    let rung = there rungs k inside in
    subst (IsRangedPart m) (sym (half_at-read side rungs k rung.0 rung.1))
    (subst (λ i. IsRangedPart i (half_of side rung.0)) same (half_of_ranged side n k rung.0 (ranged.each k rung.0 rung.1)))

-- a list that isn't empty has items
pub some_items : (n : ℕ) → eqb n 0 ≡ false → 0 < n
some_items n h = elim (cases_eq n 0) [
  | inl e ↦ absurd (both_ways (eqb n 0) h (eq-eqb n 0 e))
  | inr d ↦ omega (arith, d)
]
