-- Changes of a split of the weights at a reached set: the first weight falls on it, and the second rises (Frank 1981; Schrijver,
-- chapter 41).
use Rattle.std.specs.Prelude.{◌≡◌, ℕ, ◌<◌, ◌^◌, Bool, if◌then◌else◌, List, length}
use Rattle.mat_sets.specs.Sets.{is_member, IsSubset}
use Rattle.mat_sets.specs.Weights.{zero_weight, ◌⊕◌, ◌⊖◌, ◌≺◌, IsWeightWithin}
use Rattle.mat_sets.specs.declared.weight.Weight.{Weight}
use Rattle.mat_sets.specs.Walks.{IsReachedSet}
use Rattle.mat_laws.specs.Heaviest.{IsHeaviest}
use Rattle.mat_laws.specs.TightPaths.{exchanges_at, is_heaviest_addable, is_tight, IsStuckReach}

-- how far from 0 a number of a change of the weights of a split may be; changes are far smaller
abbrev pub change_room : ℕ
change_room = 10 ^ 31

-- w less d on R
abbrev pub lowered : (ℕ → Weight) → List ℕ → Weight → ℕ → Weight
lowered w R d x = if is_member x R then w x ⊖ d else w x

-- w and d more on R
abbrev pub raised : (ℕ → Weight) → List ℕ → Weight → ℕ → Weight
raised w R d x = if is_member x R then w x ⊕ d else w x

-- what a change by d at R does to a set I that is heaviest of its size in both matroids: d is above 0, the two weights of each element keep
-- their sum, I stays heaviest in both, what was reached stays reached, and every later search that again finds no path reaches more elements
pub record IsChange (n : ℕ) (p q : List ℕ → Bool) (w1 w2 : ℕ → Weight) (I R : List ℕ) (d : Weight) : Type 0 where
  pub positive : zero_weight ≺ d
  pub adds : (x : ℕ) → lowered w1 R d x ⊕ raised w2 R d x ≡ w1 x ⊕ w2 x
  pub first : IsHeaviest p (lowered w1 R d) I
  pub second : IsHeaviest q (raised w2 R d) I
  pub stays : (S : List ℕ) → IsReachedSet n (is_tight (exchanges_at p I) (exchanges_at q I) (lowered w1 R d) (raised w2 R d))
      (is_heaviest_addable n (exchanges_at p I) (lowered w1 R d)) S → IsSubset R S
  pub grows : (S : List ℕ) → IsStuckReach n (exchanges_at p I) (exchanges_at q I) (lowered w1 R d) (raised w2 R d) S → length R < length S

-- w1 and w2 add up to w at each element, and both numbers of w2 are at least -h and at most h
pub record IsSplitWithin (n : ℕ) (w w1 w2 : ℕ → Weight) (h : ℕ) : Type 0 where
  pub adds : (x : ℕ) → x < n → w1 x ⊕ w2 x ≡ w x
  pub within : (x : ℕ) → x < n → IsWeightWithin h (w2 x)
