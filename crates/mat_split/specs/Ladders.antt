-- Ladders of heaviest common independent sets with bounded splits (Frank 1981; Schrijver, chapter 41).
use Rattle.std.specs.Prelude.{◌≡◌, ℕ, suc, ◌<◌, Bool, List, length, Some, slice_get}
use Rattle.mat_sets.specs.Weights.{AreWeightsWithin}
use Rattle.mat_sets.specs.declared.weight.Weight.{Weight}
use Rattle.mat_laws.specs.Ladders.{IsRung, IsCut, split_bound}
use Rattle.mat_split.specs.declared.ladder.Rung.{Rung}

-- rung k is right, and both numbers of each weight of its split are within the bound
pub record IsBoundedRung (n : ℕ) (p q : List ℕ → Bool) (w : List Weight) (k : ℕ) (rung : Rung) : Type 0 where
  pub right : IsRung n p q w k rung.set rung.first rung.second
  pub first_bounded : AreWeightsWithin (split_bound n) rung.first
  pub second_bounded : AreWeightsWithin (split_bound n) rung.second

-- the rungs, one for each size from 0 on, are right and bounded, and the cut shows that there is no larger common independent set
pub record IsLadder (n : ℕ) (p q : List ℕ → Bool) (w : List Weight) (rungs : List Rung) (cut : List ℕ) : Type 0 where
  pub some : 0 < length rungs
  pub each : (k : ℕ) (rung : Rung) → slice_get rungs k ≡ Some rung → IsBoundedRung n p q w k rung
  pub last : (k : ℕ) → suc k ≡ length rungs → IsCut n p q k cut
