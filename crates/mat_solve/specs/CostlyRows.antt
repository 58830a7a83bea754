-- Matroids of which a row of exchanges may take longer to find than a thread takes to start.
use Rattle.std.specs.Prelude.{ℕ, Bool, true, false, nat_le, ◌||◌, ◌&&◌}
use Rattle.mat_any.specs.Trees.{Tree, Trees, transversal, gammoid, truncate, restrict, contract, union, no_trees, more_trees, has_union, tree_count}

-- the fewest matroids of a union between which a search takes so long
abbrev pub many_matroids : ℕ
many_matroids = 16

abbrev mutual
  -- whether a row may take so long: it is found by a search of paths or of a matching, or by one between many matroids, or between matroids of
  -- which one has such rows; a union within a union counts as one matroid, and the rows of a dual are looked up
  pub has_costly_rows : Tree → Bool
  has_costly_rows (transversal n family) = true
  has_costly_rows (gammoid vertices arcs sources targets) = true
  has_costly_rows (truncate cap t) = has_costly_rows t
  has_costly_rows (restrict kept t) = has_costly_rows t
  has_costly_rows (contract away t) = has_costly_rows t
  has_costly_rows (union ts) = nat_le many_matroids (tree_count ts) || some_have_costly_rows ts
  has_costly_rows t = false

  -- whether the rows of one of these may
  pub some_have_costly_rows : Trees → Bool
  some_have_costly_rows no_trees = false
  some_have_costly_rows (more_trees t ts) = has_costly_rows t || some_have_costly_rows ts

-- whether the rows of a matroid are worth threads: those of a union, each of which takes a search, where they may take so long
abbrev pub is_worth_threads : Tree → Bool
is_worth_threads t = has_union t && has_costly_rows t
