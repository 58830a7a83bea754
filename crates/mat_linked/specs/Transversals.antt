-- Transversal matroids: elements that can be matched to different sets of a family, each to a set that holds it (Schrijver, chapter 39).
use Rattle.std.specs.Prelude.{◌≡◌, ℕ, ◌<◌, ◌^◌, Bool, true, false, ◌&&◌, List, [], ◌∷◌, length, slice_index_or}
use Rattle.std.specs.List.{All}
use Rattle.mat_sets.specs.Sets.{is_member, IsSet, AllBelow, AreDistinct}
use Rattle.mat_sets.specs.SetTests.{are_distinct, is_set}
use Rattle.mat_sets.specs.Search.{some_list}

-- whether there are as many indices as elements, and the first element lies in the set with the first index, and so on
abbrev pub lie_in_sets : List (List ℕ) → List ℕ → List ℕ → Bool
lie_in_sets family [] [] = true
lie_in_sets family [] (j ∷ indices) = false
lie_in_sets family (x ∷ X) [] = false
lie_in_sets family (x ∷ X) (j ∷ indices) = is_member x (slice_index_or family j []) && lie_in_sets family X indices

-- the transversal matroid on n elements: some list of different indices, one for each member in order, names sets that hold the members
abbrev pub is_transversal : ℕ → List (List ℕ) → List ℕ → Bool
is_transversal n family X = is_set n X && some_list (length X) (length family) (λ indices. are_distinct indices && lie_in_sets family X indices)

-- the same in words
pub record IsPartialTransversal (n : ℕ) (family : List (List ℕ)) (X : List ℕ) : Type 0 where
  pub set : IsSet n X
  pub indices : List ℕ
  pub listed : AllBelow (length family) indices
  pub distinct : AreDistinct indices
  pub inside : lie_in_sets family X indices ≡ true

-- a number of elements, and the sets of a family
pub record Family : Type 0 where
  pub count : ℕ
  pub sets : List (List ℕ)

-- the members are elements, and there are fewer than 2^32 sets
pub record IsFamily (n : ℕ) (family : List (List ℕ)) : Type 0 where
  pub inside : All (AllBelow n) family
  pub few : length family < 2 ^ 32
