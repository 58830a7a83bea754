-- Ladders of heaviest common independent sets with split weights, and the cut that ends them (Frank 1981; Schrijver, chapter 41).
use Rattle.std.specs.Prelude.{◌≡◌, ℕ, ◌+◌, ◌*◌, ◌<◌, Bool, List, length}
use Rattle.mat_sets.specs.Limits.{largest_weight}
use Rattle.mat_sets.specs.Sets.{IsSet, minus, all_below}
use Rattle.mat_sets.specs.Weights.{◌⊕◌, weight_at}
use Rattle.mat_sets.specs.declared.weight.Weight.{Weight}
use Rattle.mat_laws.specs.Ranks.{rank}
use Rattle.mat_laws.specs.Heaviest.{IsHeaviest}

-- rung k: a set of k elements, independent in both matroids, and two weights that add up to w at each element, under
-- the first of which the set is heaviest of its size in the first matroid, and under the second in the second
pub record IsRung (n : ℕ) (p q : List ℕ → Bool) (w : List Weight) (k : ℕ) (set : List ℕ) (first second : List Weight) : Type 0 where
  pub size : length set ≡ k
  pub first_length : length first ≡ n
  pub second_length : length second ≡ n
  pub split : (e : ℕ) → e < n → weight_at first e ⊕ weight_at second e ≡ weight_at w e
  pub first_heaviest : IsHeaviest p (weight_at first) set
  pub second_heaviest : IsHeaviest q (weight_at second) set

-- a set whose rank in the second matroid and the rank of whose complement in the first add up to k, so that no common
-- independent set has more than k elements (Edmonds)
pub record IsCut (n : ℕ) (p q : List ℕ → Bool) (k : ℕ) (cut : List ℕ) : Type 0 where
  pub set : IsSet n cut
  pub ranks : rank p (minus (all_below n) cut) + rank q cut ≡ k

-- the bound on the numbers of a split of weights whose numbers are from -10^12 to 10^12 on n elements
abbrev pub split_bound : ℕ → ℕ
split_bound n = 2 * largest_weight * (n + 1) * n * (n + 1) + largest_weight
