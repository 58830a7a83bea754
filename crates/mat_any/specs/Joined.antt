-- What the matroids of a list are, and what they keep.
use Rattle.std.specs.Prelude.{ℕ, Bool, List, map}
use Rattle.mat_union.specs.Unions.{union_test}
use Rattle.mat_union.specs.UnionsOf.{common_size}
use Rattle.mat_any.specs.AnyKeeps.{KeepsAny}
use Rattle.mat_any.specs.Trees.{Trees, trees_from, union, element_count, is_independent, IsSound}
use Rattle.mat_any.specs.Views.{tree_of}
use Rattle.mat_any.specs.declared.any.AnyMatroid.{AnyMatroid}
use Rattle.mat_any.specs.declared.any_kept.AnyKept.{AnyKept}

-- the number of elements of one
abbrev pub elements_in : AnyMatroid → ℕ
elements_in m = element_count (tree_of m)

-- whether one is sound
abbrev pub IsSoundOne : AnyMatroid → Type 0
IsSoundOne m = IsSound (tree_of m)

-- the test of one
abbrev pub test_in : AnyMatroid → List ℕ → Bool
test_in m = is_independent (tree_of m)

-- what one keeps
abbrev pub KeepsOne : AnyMatroid → List ℕ → AnyKept → Type 0
KeepsOne m = KeepsAny (tree_of m)

-- the number of elements of all
abbrev pub size_in : List AnyMatroid → ℕ
size_in matroids = common_size elements_in matroids

-- the test of their union
abbrev pub union_in : List AnyMatroid → List ℕ → Bool
union_in matroids = union_test (size_in matroids) (map test_in matroids)

-- the trees of all
abbrev pub trees_in : List AnyMatroid → Trees
trees_in matroids = trees_from (map tree_of matroids)

-- what their union keeps
abbrev pub KeepsUnion : List AnyMatroid → List ℕ → AnyKept → Type 0
KeepsUnion matroids = KeepsAny (union (trees_in matroids))
