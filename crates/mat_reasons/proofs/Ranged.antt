-- The rungs of a certificate in range: their shares may be summed, and their sets are sets of elements.
use Rattle.mat_reasons.proofs.Common.{ℕ, ◌≤◌, List, get_or, subst, sym, arith, All, most_elements, AllBelow, IsSet, IsSet-length, Weight, AreSummable, HasSummableShares}
use Rattle.std.proofs.lemmas.Option.{slice_get-get_or}
use Rattle.mat_cert.specs.Certificates.{AreRangedRungs, IsRangedPart, IsRangedPlainRung, IsRangedPricedRung}
use Rattle.mat_cert.specs.declared.answer.PlainRung.{PlainRung}
use Rattle.mat_cert.specs.declared.answer.PricedRung.{PricedRung}

-- one part of a split may be summed over a set
pub part_summable : (n : ℕ) (set : List ℕ) (part : List Weight) → n ≤ most_elements → IsSet n set → IsRangedPart n part → AreSummable part set
part_summable n set part few inside ranged = record {
  inside = subst (λ m. AllBelow m set) (sym ranged.size) inside.below;
  few = omega (arith, IsSet-length n set inside, few);
  small = ranged.weights;
}

pub shares_summable : (n : ℕ) (rungs : List PricedRung) → AreRangedRungs (IsRangedPricedRung n) n rungs → All HasSummableShares rungs
shares_summable n rungs ranged = λ k d lt.
    let here = ranged.each k (get_or rungs k d) (slice_get-get_or rungs k d lt) in
    record {
      first = part_summable n _ _ ranged.few here.0.set_in_range here.1;
      second = part_summable n _ _ ranged.few here.0.set_in_range here.2;
    }

pub priced_below : (n : ℕ) (rungs : List PricedRung) → AreRangedRungs (IsRangedPricedRung n) n rungs → All (λ rung. AllBelow n rung.set) rungs
priced_below n rungs ranged = λ k d lt. (ranged.each k (get_or rungs k d) (slice_get-get_or rungs k d lt)).0.set_in_range.below

pub plain_below : (n : ℕ) (rungs : List PlainRung) → AreRangedRungs (IsRangedPlainRung n) n rungs → All (λ rung. AllBelow n rung.set) rungs
plain_below n rungs ranged = λ k d lt. (ranged.each k (get_or rungs k d) (slice_get-get_or rungs k d lt)).set_in_range.below
