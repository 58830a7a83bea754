-- Heaviest common independent sets of two matroids (Schrijver, chapter 41).
use Rattle.std.specs.Prelude.{◌≡◌, ℕ, Bool, true, List, length}
use Rattle.mat_sets.specs.Weights.{◌≼◌, weight}
use Rattle.mat_sets.specs.declared.weight.Weight.{Weight}

-- X has k elements and is independent in both matroids, and no set of k elements that is independent in both weighs more
pub record IsHeaviestCommon (p q : List ℕ → Bool) (w : List Weight) (k : ℕ) (X : List ℕ) : Type 0 where
  pub size : length X ≡ k
  pub in_first : p X ≡ true
  pub in_second : q X ≡ true
  pub most : (Y : List ℕ) → p Y ≡ true → q Y ≡ true → length Y ≡ k → weight w Y ≼ weight w X
