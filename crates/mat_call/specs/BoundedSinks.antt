-- A sink that fails only where it is full.
use Rattle.std.specs.Prelude.{ℕ, List}

-- what it took, the most bytes that it takes in all, and how many of its calls failed
pub record BoundedSinkState : Type 0 where
  pub taken : List ℕ
  pub room : ℕ
  pub faults : ℕ
