-- Costs of arcs (Schrijver, chapter 52).
use Rattle.std.specs.Prelude.{ℕ, List, slice_index_or, ℤ, pos, ◌≤ℤ◌}
use Rattle.mat_sets.specs.Limits.{largest_number, largest_weight}
use Rattle.mat_sets.specs.Sums.{sum_of}

-- a cost from 0 to 10^12
abbrev pub IsCost : ℤ → Type 0
IsCost c = (pos 0 ≤ℤ c) × (c ≤ℤ pos largest_weight)

-- a cost from 0 to 10^30, wide enough for a main and a tie in one number
abbrev pub IsWideCost : ℤ → Type 0
IsWideCost c = (pos 0 ≤ℤ c) × (c ≤ℤ pos largest_number)

-- the cost of an arc, where a list has one for each
abbrev pub cost_at : List ℤ → ℕ → ℤ
cost_at costs a = slice_index_or costs a (pos 0)

-- the cost of a set of arcs: the sum over its members
abbrev pub cost_of : List ℤ → List ℕ → ℤ
cost_of costs arcs = sum_of (cost_at costs) arcs
