-- Exchanges of a member of an independent set for an element outside that make the set heavier (Schrijver, chapter 40).
use Rattle.std.specs.Prelude.{◌≡◌, ℕ, Bool, false, not, ◌&&◌, if◌then◌else◌, List, Option, Some, None}
use Rattle.std.specs.List.{list_any}
use Rattle.mat_sets.specs.Sets.{is_member, with_one, without_one}
use Rattle.mat_sets.specs.Weights.{is_below}
use Rattle.mat_sets.specs.declared.weight.Weight.{Weight}

-- ---- the least weight of some elements

-- whether one of these elements weighs less than this
abbrev pub has_lighter : (ℕ → Weight) → List ℕ → Weight → Bool
has_lighter w elements other = list_any (λ y. is_below (w y) other) elements

-- the least weight of some elements and one more
abbrev pub least_with : Option Weight → Weight → Option Weight
least_with None z = Some z
least_with (Some t) z = Some (if is_below z t then z else t)

-- whether a weight is above the least weight, where there is one
abbrev pub exceeds_least : Weight → Option Weight → Bool
exceeds_least w None = false
exceeds_least w (Some t) = is_below t w

-- the least weight of these elements, or None where there are none: a weight is above it exactly where one of them weighs less
pub record IsLeastWeightOrNone (w : ℕ → Weight) (elements : List ℕ) (least : Option Weight) : Type 0 where
  pub tells : (other : Weight) → exceeds_least other least ≡ has_lighter w elements other

-- ---- exchanges

-- whether x can take the place of y in I, and weighs more
abbrev pub is_gain : (List ℕ → Bool) → (ℕ → Weight) → List ℕ → ℕ → ℕ → Bool
is_gain independent w I x y = independent (with_one (without_one I y) x) && is_below (w y) (w x)

-- whether x is outside I, and can take the place of a member that weighs less
abbrev pub exchange_gains : (List ℕ → Bool) → (ℕ → Weight) → List ℕ → ℕ → Bool
exchange_gains independent w I x = not (is_member x I) && list_any (is_gain independent w I x) I
