-- What is kept is right for an independent set of a matroid of any kind, by recursion on the matroid.
use Rattle.std.specs.Prelude.{◌≡◌, ℕ, List, [], ◌∷◌}
use Rattle.mat_sets.specs.Families.{family_union}
use Rattle.mat_sets.specs.Graphs.{ends_of}
use Rattle.mat_sets.specs.Sets.{union}
use Rattle.mat_laws.specs.Matroids.{IsMaximal}
use Rattle.mat_count.specs.FullSets.{AreFullSets}
use Rattle.mat_graphic.specs.RootedForests.{IsRootedForest}
use Rattle.mat_gf2.specs.Columns.{column_of}
use Rattle.mat_gf2.specs.KeptBases.{IsKeptBasis}
use Rattle.mat_linked.specs.KeptMatchings.{IsKeptMatching}
use Rattle.mat_linked.specs.KeptLinkings.{IsKeptLinking}
use Rattle.mat_minors.specs.DualRows.{IsDualKept}
use Rattle.mat_union.specs.Unions.{AreParts}
use Rattle.mat_any.specs.Trees as tree
use Rattle.mat_any.specs.Trees.{Tree, Trees, uniform, partition, laminar, graphic, transversal, gammoid, gf2, dual, truncate, restrict, contract, no_trees, more_trees}
use Rattle.mat_any.specs.Trees.{element_count, is_independent, tests_of}
use Rattle.mat_any.specs.declared.any_kept.AnyKept.{AnyKept, Row_of-AnyKept, end_of-AnyKept, more_of-AnyKept}
use Rattle.mat_any.specs.declared.any_kept.AnyKept.TheVariants.{Partition, Laminar, Graphic, Transversal, Gammoid, Gf2, Dual, DualOfDual', Contract', Union'}

abbrev mutual
  -- what a kind keeps is right as the kind says, and a uniform matroid reads none of it; a dual keeps a base and its columns, and the dual of a
  -- dual may keep what the matroid within both keeps; a truncation or a restriction what the matroid within it keeps; a contraction a maximal
  -- independent subset of what is contracted, its union with the set, and what the matroid within it keeps of that union; a union parts of
  -- the set, and what each of its matroids keeps of its part
  pub KeepsAny : Tree → List ℕ → AnyKept → Type 0
  KeepsAny (uniform n cap) I k = Unit {0}
  KeepsAny (partition n classes caps) I (Partition sets) = AreFullSets classes caps I sets
  KeepsAny (laminar n family caps) I (Laminar sets) = AreFullSets family caps I sets
  KeepsAny (graphic vertices edges) I (Graphic forest) = IsRootedForest vertices (ends_of edges) I forest
  KeepsAny (transversal n family) I (Transversal matching) = IsKeptMatching n family I matching
  KeepsAny (gammoid vertices arcs sources targets) I (Gammoid linking) = IsKeptLinking vertices arcs sources targets I linking
  KeepsAny (gf2 dim columns) I (Gf2 basis) = IsKeptBasis (column_of columns) I basis
  KeepsAny (dual t) I (Dual k) = IsDualKept (element_count t) (is_independent t) I k.set k.base k.columns
  KeepsAny (dual t) I (DualOfDual' p inner) = KeepsDual t I inner
  KeepsAny (truncate cap t) I k = KeepsAny t I k
  KeepsAny (restrict kept t) I k = KeepsAny t I k
  KeepsAny (contract away t) I (Contract' chosen joined p inner) =
      IsMaximal (is_independent t) away chosen × (joined ≡ union I chosen) × KeepsAny t joined inner
  KeepsAny (tree.union ts) I (Union' parts shape row) = AreParts (tests_of ts) parts × (family_union parts ≡ I) × KeepsEach ts parts row
  KeepsAny t I k = ⊥

  -- what the matroid within a dual keeps
  pub KeepsDual : Tree → List ℕ → AnyKept → Type 0
  KeepsDual (dual t) I k = KeepsAny t I k
  KeepsDual t I k = ⊥

  -- what each keeps of its part
  pub KeepsEach : {m : _} → Trees → List (List ℕ) → Row_of-AnyKept m → Type 0
  KeepsEach no_trees [] end_of-AnyKept = Unit {0}
  KeepsEach (more_trees t ts) (part ∷ parts) (more_of-AnyKept k row) = KeepsAny t part k × KeepsEach ts parts row
  KeepsEach ts parts row = ⊥
