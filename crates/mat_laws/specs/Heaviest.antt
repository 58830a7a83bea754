-- Heaviest independent sets (Schrijver, chapter 40; Frank 1981).
use Rattle.std.specs.Prelude.{◌≡◌, ℕ, Bool, true, false, List, length}
use Rattle.mat_sets.specs.Sets.{is_member, with_one, without_one}
use Rattle.mat_sets.specs.Weights.{◌≼◌, weight_sum}
use Rattle.mat_sets.specs.declared.weight.Weight.{Weight}

-- X is heaviest of its size: it is independent, and no independent set of as many elements weighs more
pub record IsHeaviest (independent : List ℕ → Bool) (w : ℕ → Weight) (X : List ℕ) : Type 0 where
  pub passes : independent X ≡ true
  pub most : (Y : List ℕ) → independent Y ≡ true → length Y ≡ length X → weight_sum w Y ≼ weight_sum w X

-- X is independent, and no exchange of one member y for an element x outside makes it heavier
pub record IsLocallyHeaviest (independent : List ℕ → Bool) (w : ℕ → Weight) (X : List ℕ) : Type 0 where
  pub passes : independent X ≡ true
  pub most : (x y : ℕ) → is_member y X ≡ true → is_member x X ≡ false → independent (with_one (without_one X y) x) ≡ true
      → weight_sum w (with_one (without_one X y) x) ≼ weight_sum w X
