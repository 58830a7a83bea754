-- The weight of a set is small: both its numbers are sums of at most 500 numbers from -10^12 to 10^12.
use Rattle.mat_solve.proofs.Common.{ℕ, ◌*◌, ◌^◌, ◌≤◌, List, length, arith, ℤ, ints, largest_weight, most_elements, largest_number, weight_at, weight, IsWeightWithin, AreWeightsWithin, Weight, sum_of-high, sum_of-low, weight_within_at}
use Rattle.mat_sets.specs.Sums.{sum_of, IsWithin}

within_more : (a b : ℕ) (z : ℤ) → a ≤ b → IsWithin a z → IsWithin b z
within_more a b z le (low, high) = (omega (arith, ints), omega (arith, ints))

-- a weight within a bound is within each larger one
pub weight_within_more : (a b : ℕ) (w : Weight) → a ≤ b → IsWeightWithin a w → IsWeightWithin b w
weight_within_more a b w le h = (within_more a b w.main le h.0, within_more a b w.tie le h.1)

-- a sum over at most 500 elements
within_sum : (f : ℕ → ℤ) (X : List ℕ) → ((k : ℕ) → IsWithin largest_weight (f k)) → length X ≤ most_elements
    → IsWithin (5 * 10 ^ 14) (sum_of f X)
within_sum f X all few =
    let low = sum_of-low f largest_weight X (λ k _. (all k).0) in
    let high = sum_of-high f largest_weight X (λ k _. (all k).1) in
    (omega (arith, ints, low), omega (arith, ints, high))

-- the weight of a set of at most 500 elements
pub within_set : (w : List Weight) (X : List ℕ) → AreWeightsWithin largest_weight w → length X ≤ most_elements → IsWeightWithin (5 * 10 ^ 14) (weight w X)
within_set w X all few = (
  within_sum (λ k. (weight_at w k).main) X (λ k. (weight_within_at largest_weight w all k).0) few,
  within_sum (λ k. (weight_at w k).tie) X (λ k. (weight_within_at largest_weight w all k).1) few,
)

-- and so it is within the range of certificates
pub set_in_range : (w : List Weight) (X : List ℕ) → AreWeightsWithin largest_weight w → length X ≤ most_elements → IsWeightWithin largest_number (weight w X)
set_in_range w X all few = weight_within_more (5 * 10 ^ 14) largest_number (weight w X) (omega arith) (within_set w X all few)
