-- One step of weight splitting: from a set that is heaviest in both matroids to one of one more element, or to the cut (Frank 1981;
-- Schrijver, chapter 41).
use Rattle.std.specs.Prelude.{◌≡◌, ℕ, suc, ◌+◌, ◌*◌, Bool, List, length}
use Rattle.mat_sets.specs.Limits.{largest_weight}
use Rattle.mat_sets.specs.Weights.{◌⊕◌, weight_at}
use Rattle.mat_sets.specs.declared.weight.Weight.{Weight}
use Rattle.mat_laws.specs.Heaviest.{IsHeaviest}
use Rattle.mat_laws.specs.Ladders.{IsCut}
use Rattle.mat_exchange.specs.Changes.{IsSplitWithin}
use Rattle.mat_split.specs.declared.ladder.Rung.{Rung}
use Rattle.mat_split.specs.declared.augmented.Augmented.{Augmented}
use Rattle.mat_split.specs.declared.augmented.Augmented.TheVariants.{Larger, Last}

-- a set of k elements, heaviest of its size in both matroids under two weights that add up to w, both numbers of the second from
-- -h to h
pub record IsSplitAt (n : ℕ) (p q : List ℕ → Bool) (w : ℕ → Weight) (k h : ℕ) (I : List ℕ) (w1 w2 : ℕ → Weight) : Type 0 where
  pub size : length I ≡ k
  pub first : IsHeaviest p w1 I
  pub second : IsHeaviest q w2 I
  pub split : IsSplitWithin n w w1 w2 h

-- the bound on the second weights of the set of k elements, which leaves 2 * 10^12 * (n + 1) * (n + 1) to each size; a search adds at
-- most 2 * 10^12 * (n + 1) * n
abbrev pub size_bound : ℕ → ℕ → ℕ
size_bound n k = 2 * largest_weight * (n + 1) * (n + 1) * k

-- the weights that the two weights of a rung add up to
abbrev pub weights_of : Rung → ℕ → Weight
weights_of rung e = weight_at rung.first e ⊕ weight_at rung.second e

-- a rung of k elements on n, within its bound
pub record IsSplitRung (n : ℕ) (p q : List ℕ → Bool) (w : ℕ → Weight) (k : ℕ) (rung : Rung) : Type 0 where
  pub first_length : length rung.first ≡ n
  pub second_length : length rung.second ≡ n
  pub at : IsSplitAt n p q w k (size_bound n k) rung.set (weight_at rung.first) (weight_at rung.second)

-- what follows the rung of k elements: a rung of k + 1, or a cut that proves that there is none
abbrev pub IsAugmented : ℕ → (List ℕ → Bool) → (List ℕ → Bool) → (ℕ → Weight) → ℕ → Augmented → Type 0
IsAugmented n p q w k (Larger rung) = IsSplitRung n p q w (suc k) rung
IsAugmented n p q w k (Last cut) = IsCut n p q k cut
