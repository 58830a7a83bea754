-- What rungs and sets come to, read one after the other from the front.
use Rattle.mat_summary.proofs.Common.{◌≡◌, ℕ, zero, suc, ◌+◌, ◌<◌, List, [], ◌∷◌, ◌++◌, length, get_or, take, Some, refl, ap, ◌∙◌, arith, slice_get, ints, ◌⊕◌, pairs, all_members, ladder_weight, last_weight, PricedRung}
use Rattle.std.specs.List.{sum_by}
use Rattle.std.proofs.lemmas.List.{take_more}
use Rattle.std.proofs.lemmas.List.Sums.{sum_by_more, sum_by-cons}

-- the last rung is the one at the last place
pub last_weight-at : (rungs : List PricedRung) (k : ℕ) (rung : PricedRung) → suc k ≡ length rungs → slice_get rungs k ≡ Some rung
    → rung.weight ≡ last_weight rungs
last_weight-at (r ∷ []) zero rung long at = grind arith
last_weight-at (r ∷ next ∷ rungs) (suc k) rung long at = last_weight-at (next ∷ rungs) k rung (omega arith) at
last_weight-at rungs k rung long at = absurd (omega arith)

ladder_weight-push : (rungs : List PricedRung) (rung : PricedRung) → ladder_weight (rungs ++ rung ∷ []) ≡ ladder_weight rungs ⊕ rung.weight
ladder_weight-push [] rung = omega (arith, ints, pairs)
ladder_weight-push (r ∷ rungs) rung = let more = ladder_weight-push rungs rung in omega (arith, ints, pairs)

-- one more rung
pub ladder_weight-more : (rungs : List PricedRung) (i : ℕ) (rung : PricedRung) → i < length rungs
    → ladder_weight (take (i + 1) rungs) ≡ ladder_weight (take i rungs) ⊕ (get_or rungs i rung).weight
ladder_weight-more rungs i rung inside = ap ladder_weight (take_more rungs i rung inside) ∙ ladder_weight-push (take i rungs) (get_or rungs i rung)

-- the members of all sets are counted by their lengths
pub all_members-sum : (sets : List (List ℕ)) → all_members sets ≡ sum_by length sets
all_members-sum [] = refl
all_members-sum (set ∷ sets) = rw sum_by-cons (ap (λ (n : ℕ). length set + n) (all_members-sum sets))

-- one more set
pub all_members-more : (sets : List (List ℕ)) (i : ℕ) (set : List ℕ) → i < length sets
    → all_members (take (i + 1) sets) ≡ all_members (take i sets) + length (get_or sets i set)
all_members-more sets i set inside = simp all_members-sum (sum_by_more length sets i set inside)
