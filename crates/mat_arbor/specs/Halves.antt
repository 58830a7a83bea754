-- Weights as single numbers, and the two halves of a split that come from such numbers (Schrijver, chapter 2).
use Rattle.std.specs.Prelude.{◌≡◌, ℕ, ◌+◌, ◌*◌, ◌/◌, ◌%◌, ◌<◌, List, length, map, slice_index_or, ℤ, pos, ◌+ℤ◌, ◌-ℤ◌, ◌*ℤ◌}
use Rattle.mat_sets.specs.Limits.{largest_weight}
use Rattle.mat_sets.specs.Weights.{◌⊖◌, negated, weight_at}
use Rattle.mat_sets.specs.declared.weight.Weight.{Weight}

-- more than the ties of two costs differ
abbrev pub tie_gap : ℕ
tie_gap = 2 * largest_weight + 1

-- what a main of 1 counts in a single number where there are n arcs: as much as n + 1 gaps
abbrev pub unit_of : ℕ → ℕ
unit_of n = (n + 1) * tie_gap

-- main and tie in a single number
abbrev pub value : ℕ → Weight → ℤ
value unit w = pos unit *ℤ w.main +ℤ w.tie

-- the cost as a single number, raised by the same for each cost, so that it is not below 0
abbrev pub raised_value : ℕ → Weight → ℤ
raised_value unit w = value unit w +ℤ pos (unit * (largest_weight + 1))

-- in which gap of the unit, counted from 0, the remainder of the number after division by the unit lies
abbrev pub gap_at : ℕ → ℕ → ℕ
gap_at unit x = x % unit / tie_gap

-- a shift below the unit: with it added, no number has a remainder in the last gap of the unit
pub record IsFreeShift (unit : ℕ) (held : List ℕ) (shift : ℕ) : Type 0 where
  pub below : shift < unit
  pub free : (a : ℕ) → a < length held → (slice_index_or held a 0 + shift) % unit + tie_gap < unit

-- the weight with this value whose tie is from -shift on and below unit - shift
abbrev pub weight_of : ℕ → ℕ → ℕ → Weight
weight_of unit shift x = record { main = pos ((x + shift) / unit); tie = pos x -ℤ pos ((x + shift) / unit * unit) }

-- the second half: what the first leaves of each negated cost
pub record AreSecondHalves (costs first second : List Weight) : Type 0 where
  pub long : length second ≡ length costs
  pub each : (a : ℕ) → a < length costs → weight_at second a ≡ negated (weight_at costs a) ⊖ weight_at first a

-- two halves: the weights with these values for some free shift, and the rest
pub record AreHalves (unit : ℕ) (costs : List Weight) (held : List ℕ) (first second : List Weight) : Type 0 where
  pub shift : ℕ
  pub free : IsFreeShift unit held shift
  pub first_are : first ≡ map (weight_of unit shift) held
  pub second_are : AreSecondHalves costs first second
