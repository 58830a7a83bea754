-- The tree that a matroid of any kind is seen as.
use Rattle.mat_any.specs.Trees.{Tree, Trees, uniform, partition, laminar, graphic, transversal, gammoid, gf2, dual, truncate, restrict, contract, union, no_trees, more_trees}
use Rattle.mat_any.specs.declared.any.AnyMatroid.{AnyMatroid, Row_of-AnyMatroid, end_of-AnyMatroid, more_of-AnyMatroid}
use Rattle.mat_any.specs.declared.any.AnyMatroid.TheVariants.{Uniform, Partition, Laminar, Graphic, Transversal, Gammoid, Gf2, Dual', Truncate', Restrict', Contract', Union'}

abbrev mutual
  -- the tree of a matroid: its keyword with what its constructor took
  pub tree_of : AnyMatroid → Tree
  tree_of (Uniform m) = uniform m.count m.cap
  tree_of (Partition m) = partition m.count m.classes m.caps
  tree_of (Laminar m) = laminar m.count m.sets m.caps
  tree_of (Graphic m) = graphic m.vertices m.edges
  tree_of (Transversal m) = transversal m.count m.sets
  tree_of (Gammoid m) = gammoid m.vertices m.arcs m.sources m.targets
  tree_of (Gf2 m) = gf2 m.dim m.columns
  tree_of (Dual' p inner) = dual (tree_of inner)
  tree_of (Truncate' cap p inner) = truncate cap (tree_of inner)
  tree_of (Restrict' kept p inner) = restrict kept (tree_of inner)
  tree_of (Contract' away p inner) = contract away (tree_of inner)
  tree_of (Union' shape row) = union (trees_of row)

  -- the tree of each
  pub trees_of : {m : _} → Row_of-AnyMatroid m → Trees
  trees_of end_of-AnyMatroid = no_trees
  trees_of (more_of-AnyMatroid m row) = more_trees (tree_of m) (trees_of row)
