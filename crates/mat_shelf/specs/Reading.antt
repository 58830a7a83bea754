-- What a read gives.
use Rattle.std.specs.Prelude.{◌≡◌, ℕ, ◌<◌, ◌≤◌, List, [], take, drop, length, Option, Some}

-- The first c bytes of what was left stand at the front of the buffer and are dropped;
-- none are given into a buffer with room only where nothing was left.
pub record Gave (left : List ℕ) (c : ℕ) (into : List ℕ) (after : Option (List ℕ)) : Type 0 where
  pub within : c ≤ length left
  pub bytes : take c into ≡ take c left
  pub rest : after ≡ Some (drop c left)
  pub at_end : 0 < length into → c ≡ 0 → left ≡ []
