-- Places in a rising list.
use Rattle.std.specs.Prelude.{◌≡◌, ℕ, ◌-◌, ◌<◌, ◌≤◌, List, length, take, slice_index}
use Rattle.mat_sets.specs.Sets.{IsRising}

-- k is the first place whose item is not above the one before it
pub record IsFirstFall (xs : List ℕ) (k : ℕ) : Type 0 where
  pub inside : (0 < k) × (k < length xs)
  pub falls : slice_index xs k ≤ slice_index xs (k - 1)
  pub rises_before : IsRising (take k xs)

-- x stands at i
pub record IsPlace (xs : List ℕ) (x i : ℕ) : Type 0 where
  pub inside : i < length xs
  pub found : slice_index xs i ≡ x

-- x does not stand in xs: the items before i are below it, and those from i on above it
pub record IsGap (xs : List ℕ) (x i : ℕ) : Type 0 where
  pub inside : i ≤ length xs
  pub below : (k : ℕ) → k < i → slice_index xs k < x
  pub above : (k : ℕ) → i ≤ k → k < length xs → x < slice_index xs k
