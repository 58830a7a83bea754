-- The union of a list of matroids on the same elements (Schrijver, chapter 42).
use Rattle.std.specs.Prelude.{ℕ, ◌<◌, ◌^◌, List, [], ◌∷◌, length}
use Rattle.mat_union.specs.GrownParts.{AreSound}

-- the number of elements of the first one
abbrev pub common_size : {M : Type 0} → (M → ℕ) → List M → ℕ
common_size size [] = 0
common_size size (m ∷ matroids) = size m

-- at least one matroid and fewer than 2 ^ 32, each sound and all of one size
pub record AreJoined {M : Type 0} (size : M → ℕ) (sound : M → Type 0) (matroids : List M) : Type 0 where
  pub some : 0 < length matroids
  pub few : length matroids < 2 ^ 32
  pub each : AreSound size sound (common_size size matroids) matroids
