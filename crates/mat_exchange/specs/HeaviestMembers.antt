-- The search for a heaviest element that goes through the numbers in rising order.
use Rattle.std.specs.Prelude.{◌≡◌, ℕ, ◌<◌, ◌/◌, ◌&&◌, ◌==◌, Bool, true, false, List, Option, Some, None, MatchOption}
use Rattle.mat_sets.specs.Sets.{is_member}
use Rattle.mat_sets.specs.Weights.{◌≼◌}
use Rattle.mat_sets.specs.declared.weight.Weight.{Weight}
use Rattle.mat_exchange.specs.Growing.{heavier_of}

-- y passes, and none before `from` that passes weighs more
pub record IsHeaviestTo (test : ℕ → Bool) (w : ℕ → Weight) (from y : ℕ) : Type 0 where
  pub passes : test y ≡ true
  pub most : (x : ℕ) → x < from → test x ≡ true → w x ≼ w y

-- such an element, or none where nothing before `from` passes
abbrev pub IsHeaviestToOrNone : (ℕ → Bool) → (ℕ → Weight) → ℕ → Option ℕ → Type 0
IsHeaviestToOrNone test w from found = MatchOption found ((x : ℕ) → x < from → test x ≡ false) (IsHeaviestTo test w from)

-- whether x is a member and one of the 64 numbers of a bucket
abbrev pub in_bucket : List ℕ → ℕ → ℕ → Bool
in_bucket members at x = is_member x members && (x / 64 == at)

-- the heavier of two elements, where there are any
abbrev pub heavier_of_two : (ℕ → Weight) → Option ℕ → Option ℕ → Option ℕ
heavier_of_two w heaviest None = heaviest
heavier_of_two w heaviest (Some x) = heavier_of w heaviest x
