-- What the parts of the check find.
use Rattle.std.specs.Prelude.{◌≡◌, ℕ, ◌<◌, Bool, List, length, ℤ, ◌+ℤ◌}
use Rattle.mat_cuts.specs.Costs.{cost_at}
use Rattle.mat_cuts.specs.Cuts.{weight_where}

-- the weight is added at each arc that passes
pub record IsAdded (count : ℕ) (test : ℕ → Bool) (weight : ℤ) (before after : List ℤ) : Type 0 where
  pub long : length after ≡ length before
  pub each : (a : ℕ) → a < count → cost_at after a ≡ cost_at before a +ℤ weight_where (test a) weight
