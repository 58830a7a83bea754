-- Heaviest independent sets of each size (Schrijver, chapter 40).
use Rattle.std.specs.Prelude.{◌≡◌, ℕ, suc, ◌<◌, Bool, [], List, length, map, slice_index_or}
use Rattle.mat_sets.specs.Sets.{all_below}
use Rattle.mat_sets.specs.Weights.{weight_sum}
use Rattle.mat_sets.specs.declared.weight.Weight.{Weight}
use Rattle.mat_laws.specs.Ranks.{rank}
use Rattle.mat_laws.specs.Heaviest.{IsHeaviest}

-- for each size from 0 to the rank of all elements, in this order, a heaviest independent set of this size
pub record AreHeaviestEach (n : ℕ) (independent : List ℕ → Bool) (w : ℕ → Weight) (sets : List (List ℕ)) : Type 0 where
  pub count : length sets ≡ suc (rank independent (all_below n))
  pub each : (k : ℕ) → k < length sets → (length (slice_index_or sets k []) ≡ k) × IsHeaviest independent w (slice_index_or sets k [])

-- for each size from 0 to the rank of all elements, in this order, the weight of a heaviest independent set of this size
pub record AreHeaviestWeights (n : ℕ) (independent : List ℕ → Bool) (w : ℕ → Weight) (weights : List Weight) : Type 0 where
  pub sets : List (List ℕ)
  pub heaviest : AreHeaviestEach n independent w sets
  pub weighed : weights ≡ map (weight_sum w) sets
