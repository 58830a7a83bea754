-- The numbers of an answer in range are small enough to be added, and its sets rise.
use Rattle.mat_summary.proofs.Common.{ℕ, ◌≤◌, List, [], ◌∷◌, length, get_or, arith, All-head, All-tail, All-weaker, slice_get-get_or, largest_number, most_elements, IsWeightWithin, AreRangedRungs, IsRangedPricedRung, PricedRung}
use Rattle.std.specs.List.{All}
use Rattle.mat_sets.specs.Families.{AllRising}
use Rattle.mat_sets.specs.Sets.{IsSet}
use Rattle.mat_sets.proofs.Ground.{IsSet-length}

-- the weights of a ladder
pub rung_weights_within : (n : ℕ) (rungs : List PricedRung) → AreRangedRungs (IsRangedPricedRung n) n rungs
    → All (λ rung. IsWeightWithin largest_number rung.weight) rungs
rung_weights_within n rungs ranged = λ k d inside. (ranged.each k (get_or rungs k d) (slice_get-get_or rungs k d inside)).0.weight_in_range

-- the sizes of sets
pub set_sizes_within : (n : ℕ) (sets : List (List ℕ)) → n ≤ most_elements → All (IsSet n) sets → All (λ set. length set ≤ most_elements) sets
set_sizes_within n sets few all = All-weaker (IsSet n) (λ set. length set ≤ most_elements) (λ set is. omega (arith, IsSet-length n set is)) sets all

-- sets rise
pub sets_rise : (n : ℕ) (sets : List (List ℕ)) → All (IsSet n) sets → AllRising sets
sets_rise n [] all = tt
sets_rise n (set ∷ sets) all = ((All-head (IsSet n) set sets all).rising, sets_rise n sets (All-tail (IsSet n) set sets all))
