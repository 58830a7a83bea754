-- Matroids that are lent, as the matroids of one union.
use Rattle.std.specs.Prelude.{◌≡◌, List, map}
use Rattle.mat_any.specs.FlatUnions.{IsFlat}
use Rattle.mat_any.specs.Trees.{Tree, flat_of}
use Rattle.mat_any.specs.Views.{tree_of}
use Rattle.mat_any.specs.declared.part.Part.{Part}

-- the tree of one
abbrev pub tree_seen : Part → Tree
tree_seen p = tree_of p.matroid.now

-- the trees of all
abbrev pub trees_seen : List Part → List Tree
trees_seen parts = map tree_seen parts

-- a union of unions is the union of these
pub record IsUnited (t : Tree) (parts : List Part) : Type 0 where
  pub flat : IsFlat t
  pub trees : trees_seen parts ≡ flat_of t
