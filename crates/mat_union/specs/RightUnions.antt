-- Right answers on the union of matroids with weights: parts, and a cut for each weight (Schrijver, chapter 42).
use Rattle.std.specs.Prelude.{◌≡◌, ℕ, ◌+◌, ◌<◌, ◌≤◌, Bool, List, [], length, slice_index_or}
use Rattle.mat_sets.specs.FallingWeights.{heavy}
use Rattle.mat_sets.specs.Families.{family_union}
use Rattle.mat_sets.specs.Sets.{IsRising, IsSubset, intersection, minus}
use Rattle.mat_sets.specs.Weights.{zero_weight, weight, weight_at, ◌≺◌, ◌≼◌}
use Rattle.mat_sets.specs.declared.weight.Weight.{Weight}
use Rattle.mat_union.specs.Unions.{AreParts, ranks_sum}
use Rattle.mat_union.specs.declared.best.Level.{Level}

-- the j-th level
abbrev pub level_at : List Level → ℕ → Level
level_at levels j = slice_index_or levels j (record { at = zero_weight; cut = [] })

-- the levels are those of the distinct weights, in falling order
pub record AreFalling (w : List Weight) (levels : List Level) : Type 0 where
  pub falling : (i j : ℕ) → i < j → j < length levels → (level_at levels j).at ≺ (level_at levels i).at
  pub given : (j : ℕ) → j < length levels → (x : ℕ) × (x < length w) × (weight_at w x ≡ (level_at levels j).at)
  pub all : (x : ℕ) → x < length w → (j : ℕ) × (j < length levels) × ((level_at levels j).at ≡ weight_at w x)

-- the cut lies in the set F of the elements of at least this weight, and shows that no parts hold more members of F
pub record IsLevelCut (n : ℕ) (tests : List (List ℕ → Bool)) (w : List Weight) (parts : List (List ℕ)) (t : Weight) (cut : List ℕ) : Type 0 where
  pub rises : IsRising cut
  pub inside : IsSubset cut (heavy n w t)
  pub count : length (intersection (family_union parts) (heavy n w t)) ≡ length (minus (heavy n w t) cut) + ranks_sum tests cut

-- disjoint sets, the i-th independent in the i-th matroid, and for each weight, falling, a cut
pub record IsRightUnion (n : ℕ) (tests : List (List ℕ → Bool)) (w : List Weight) (parts : List (List ℕ)) (levels : List Level) : Type 0 where
  pub are : AreParts tests parts
  pub weights : AreFalling w levels
  pub cuts : (j : ℕ) → j < length levels → IsLevelCut n tests w parts (level_at levels j).at (level_at levels j).cut

-- no disjoint independent sets hold more elements, and those that hold as many weigh at most as much
pub record IsBestUnion (tests : List (List ℕ → Bool)) (w : List Weight) (parts : List (List ℕ)) : Type 0 where
  pub most : (others : List (List ℕ)) → AreParts tests others → length (family_union others) ≤ length (family_union parts)
  pub heaviest : (others : List (List ℕ)) → AreParts tests others → length (family_union others) ≡ length (family_union parts)
      → weight w (family_union others) ≼ weight w (family_union parts)
