-- Sums of the caps of chosen sets.
use Rattle.mat_witness.proofs.Common.{◌≡◌, ℕ, zero, suc, ◌+◌, ◌*◌, ◌<◌, ◌≤◌, List, [], ◌∷◌, length, get_or, take, inl, inr, arith, cases_lt, get_or_past, length-take, All-get_or, most_elements, IsSet, IsSet-length, caps_sum}
use Rattle.std.proofs.Math.Numerals.{add-one}
use Rattle.std.specs.List.{All}
use Rattle.mat_problem.specs.Limits.{most_sets}

-- one more set
pub caps_sum-more : (caps chosen : List ℕ) (i : ℕ) → i < length chosen
    → caps_sum caps (take (i + 1) chosen) ≡ caps_sum caps (take i chosen) + get_or caps (get_or chosen i 0) 0
caps_sum-more caps [] i inside = absurd (omega arith)
caps_sum-more caps (k ∷ chosen) zero inside = omega arith
caps_sum-more caps (k ∷ chosen) (suc i) inside =
    rw (add-one (suc i)) (let rest = rw (add-one i) at (caps_sum-more caps chosen i (omega arith)) in omega arith)

-- each cap is small, and past the end it is 0
cap_small : (caps : List ℕ) (k : ℕ) → All (λ cap. cap ≤ most_elements) caps → get_or caps k 0 ≤ most_elements
cap_small caps k small = elim (cases_lt k (length caps)) [
  | inl inside ↦ All-get_or (λ cap. cap ≤ most_elements) caps k 0 inside small
  | inr past ↦ omega (arith, get_or_past caps k 0 past)
]

caps_sum-most : (caps chosen : List ℕ) → All (λ cap. cap ≤ most_elements) caps → caps_sum caps chosen ≤ most_elements * length chosen
caps_sum-most caps [] small = omega arith
caps_sum-most caps (k ∷ chosen) small = omega (arith, cap_small caps k small, caps_sum-most caps chosen small)

-- the caps of the first of few sets
pub caps_sum-small : (caps chosen : List ℕ) (i : ℕ) → All (λ cap. cap ≤ most_elements) caps → length caps ≤ most_sets → IsSet (length caps) chosen
    → caps_sum caps (take i chosen) ≤ most_elements * most_sets
caps_sum-small caps chosen i small few listed =
    omega (arith, caps_sum-most caps (take i chosen) small, length-take i chosen, IsSet-length (length caps) chosen listed)
