-- What one worker drew and computed.
use Rattle.std.specs.Prelude.{◌≡◌, ℕ, ◌≤◌, List, [], ◌∷◌, ◌++◌, length, slice_get, slice_index, Some}
use Rattle.mat_sets.specs.Sets.{AllBelow, IsRising}

-- a row for each ticket, which stands at it
pub record AreRowsAt {X : Type 0} (stands : ℕ → X → Type 0) (tickets : List ℕ) (rows : List X) : Type 0 where
  pub count : length rows ≡ length tickets
  pub each : (k : ℕ) (row : X) → slice_get rows k ≡ Some row → stands (slice_index tickets k) row

-- the tickets rise and are below the count, and have their rows
pub record IsOutput {X : Type 0} (stands : ℕ → X → Type 0) (count : ℕ) (tickets : List ℕ) (rows : List X) : Type 0 where
  pub rising : IsRising tickets
  pub below : AllBelow count tickets
  pub stand : AreRowsAt stands tickets rows

-- what was drawn is the tickets, and then one number that is not below the count
pub record IsLast (count : ℕ) (tickets drawn : List ℕ) : Type 0 where
  pub last : ℕ
  pub past : count ≤ last
  pub all : drawn ≡ tickets ++ last ∷ []
