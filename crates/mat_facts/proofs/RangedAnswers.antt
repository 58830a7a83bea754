-- What is in range has as many shares, members and rungs as its reason asks for.
use Rattle.mat_facts.proofs.Common.{◌<◌, ℕ, List, Option, None, Some, get_or, length, subst, sym, arith, PlainRung, PricedRung}
use Rattle.std.proofs.Common.{◌^◌}
use Rattle.std.specs.List.{All}
use Rattle.std.specs.Prelude.{Bool, IfSome}
use Rattle.std.proofs.lemmas.Option.{slice_get-get_or}
use Rattle.mat_sets.specs.Sets.{AllBelow}
use Rattle.mat_cert.specs.Certificates.{AreRangedRungs, IsRangedOption, IsRangedPlainRung, IsRangedPricedRung}
use Rattle.mat_facts.specs.Shares.{HasShares}

pub all_share : (n : ℕ) (rungs : List PricedRung) → AreRangedRungs (IsRangedPricedRung n) n rungs → All HasShares rungs
all_share n rungs ranged = λ k d lt.
    let rung = get_or rungs k d in
    let here = ranged.each k rung (slice_get-get_or rungs k d lt) in
    record {
      first = subst (λ m. AllBelow m rung.set) (sym here.1.size) here.0.set_in_range.below;
      second = subst (λ m. AllBelow m rung.set) (sym here.2.size) here.0.set_in_range.below;
    }

pub plain_inside : (n : ℕ) (rungs : List PlainRung) → AreRangedRungs (IsRangedPlainRung n) n rungs → All (λ rung. AllBelow n rung.set) rungs
plain_inside n rungs ranged = λ k d lt. (ranged.each k (get_or rungs k d) (slice_get-get_or rungs k d lt)).set_in_range.below

pub few_rungs : {R : Type 0} {P : ℕ → R → Type 0} (n : ℕ) (rungs : List R) → AreRangedRungs P n rungs → length rungs < 2 ^ 32
few_rungs n rungs ranged = omega (arith, ranged.few, ranged.no_more)

-- a set that is there is one of elements
pub option_below : (n : ℕ) (needed : Bool) (cut : Option (List ℕ)) → IsRangedOption n needed cut → IfSome cut (AllBelow n)
option_below n needed None ranged = tt
option_below n needed (Some set) ranged = ranged.1.below
