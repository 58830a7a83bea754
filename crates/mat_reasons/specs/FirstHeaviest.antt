-- The first of the heaviest of numbered things.
use Rattle.std.specs.Prelude.{ℕ, ◌<◌}
use Rattle.mat_sets.specs.Weights.{◌≼◌, ◌≺◌}
use Rattle.mat_sets.specs.declared.weight.Weight.{Weight}

-- number i is at least as heavy as each number below n, and heavier than each number before i: an i below n is the first of the heaviest numbers below n
pub record IsFirstHeaviest (w : ℕ → Weight) (n i : ℕ) : Type 0 where
  pub heaviest : (k : ℕ) → k < n → w k ≼ w i
  pub first : (k : ℕ) → k < i → w k ≺ w i
