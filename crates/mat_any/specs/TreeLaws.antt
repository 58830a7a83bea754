-- Each sound tree obeys the laws of a matroid, by induction on the tree.
use Rattle.std.specs.Prelude.{ℕ, zero, suc, ◌<◌, length}
use Rattle.std.proofs.Common.{arith, subst}
use Rattle.mat_sets.specs.Graphs.{ends_of}
use Rattle.mat_laws.specs.Matroids.{IsMatroid}
use Rattle.mat_count.specs.UniformLaws.{uniform_laws}
use Rattle.mat_count.specs.PartitionLaws.{partition_laws}
use Rattle.mat_count.specs.LaminarLaws.{counted_laws}
use Rattle.mat_graphic.specs.ForestLaws.{graphic_laws}
use Rattle.mat_gf2.specs.Columns.{column_of}
use Rattle.mat_gf2.specs.Gf2Laws.{gf2_laws}
use Rattle.mat_linked.specs.TransversalLaws.{transversal_laws}
use Rattle.mat_linked.specs.GammoidLaws.{gammoid_laws}
use Rattle.mat_minors.specs.MinorLaws.{dual_laws, truncated_laws, restricted_laws, contracted_laws}
use Rattle.mat_union.specs.Unions.{test_at}
use Rattle.mat_union.specs.UnionLaws.{union_laws}
use Rattle.mat_any.specs.Trees.{Tree, Trees, uniform, partition, laminar, graphic, transversal, gammoid, gf2, dual, truncate, restrict, contract, union, no_trees, more_trees, element_count, first_count, is_independent, tests_of, IsSound, AreSoundOn}

mutual
  -- by cases on the kind
  pub tree_laws : (t : Tree) → IsSound t → IsMatroid (element_count t) (is_independent t)
  tree_laws (uniform n cap) sound = uniform_laws n cap
  tree_laws (partition n classes caps) sound = partition_laws n classes caps sound
  tree_laws (laminar n sets caps) sound = counted_laws n sets caps sound.family
  tree_laws (graphic vertices edges) sound = graphic_laws (length edges) (ends_of edges)
  tree_laws (transversal n family) sound = transversal_laws n family sound.inside
  tree_laws (gammoid vertices arcs sources targets) sound = gammoid_laws vertices arcs sources targets sound
  tree_laws (gf2 dim columns) sound = gf2_laws (length columns) (column_of columns)
  tree_laws (dual t) sound = dual_laws (element_count t) (is_independent t) (tree_laws t sound)
  tree_laws (truncate cap t) sound = truncated_laws (element_count t) (is_independent t) cap (tree_laws t sound)
  tree_laws (restrict kept t) sound = restricted_laws (element_count t) (is_independent t) kept (tree_laws t sound.1)
  tree_laws (contract away t) sound = contracted_laws (element_count t) (is_independent t) away sound.0.rising (tree_laws t sound.1)
  tree_laws (union ts) sound = union_laws (tests_of ts) (record { each = laws_at (first_count ts) ts sound.2 })

  -- the law of the i-th
  laws_at : (n : ℕ) (ts : Trees) → AreSoundOn n ts → (i : ℕ) → i < length (tests_of ts) → IsMatroid n (test_at (tests_of ts) i)
  laws_at n no_trees sound i l = absurd (omega arith)
  laws_at n (more_trees t ts) sound zero l = subst (λ k. IsMatroid k (is_independent t)) sound.1 (tree_laws t sound.0)
  laws_at n (more_trees t ts) sound (suc i) l = laws_at n ts sound.2 i (omega arith)
