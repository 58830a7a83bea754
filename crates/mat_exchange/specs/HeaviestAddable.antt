-- The greatest weight of the elements that pass a test, as of those that can be added (Frank 1981).
use Rattle.std.specs.Prelude.{◌≡◌, ℕ, Bool, true, false, if◌then◌else◌, Option, Some, None, MatchOption}
use Rattle.mat_sets.specs.Weights.{◌≼◌, is_below}
use Rattle.mat_sets.specs.declared.weight.Weight.{Weight}
use Rattle.mat_laws.specs.TightPaths.{Exchanges}
use Rattle.mat_exchange.specs.declared.heaviest_addable.GreatestWeights.{GreatestWeights}

-- t is the weight of an element that passes, and none that passes weighs more
pub record IsHeaviestWeight (test : ℕ → Bool) (w : ℕ → Weight) (t : Weight) : Type 0 where
  pub element : ℕ
  pub passes : test element ≡ true
  pub weighs : w element ≡ t
  pub most : (x : ℕ) → test x ≡ true → w x ≼ t

-- that weight, or nothing where no element passes
abbrev pub IsHeaviestWeightOrNone : (ℕ → Bool) → (ℕ → Weight) → Option Weight → Type 0
IsHeaviestWeightOrNone test w heaviest = MatchOption heaviest ((x : ℕ) → test x ≡ false) (IsHeaviestWeight test w)

-- the greatest weights of the elements that can be added in two matroids, in the first under w1 and in the second under w2
pub record AreGreatestWeights (first second : Exchanges) (w1 w2 : ℕ → Weight) (heaviest : GreatestWeights) : Type 0 where
  pub of_first : IsHeaviestWeightOrNone first.adds w1 heaviest.first
  pub of_second : IsHeaviestWeightOrNone second.adds w2 heaviest.second

-- the greater of a weight, if there is one, and another
abbrev pub greater_of : Option Weight → Weight → Option Weight
greater_of None z = Some z
greater_of (Some t) z = Some (if is_below t z then z else t)

-- whether a weight is above another, or there is no other
abbrev pub is_above : Weight → Option Weight → Bool
is_above w None = true
is_above w (Some t) = is_below t w
