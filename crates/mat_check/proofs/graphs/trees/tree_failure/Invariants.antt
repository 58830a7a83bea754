-- No set before this is other than a spanning tree.
use Rattle.mat_check.proofs.Common.{[], ◌∷◌, length, ends_of, tree_clause}
use Rattle.mat_check.proofs.NumberedFailures.{IsPassed}
use Rattle.mat_check.proofs.graphs.trees.tree_failure.Given as goal

abbrev pub invariant-loop-i : goal.invariant-loop-i
invariant-loop-i l = IsPassed (λ i tree. tree_clause l.graph.vertices (length l.graph.edges) (ends_of l.graph.edges) i tree ∷ []) l.trees l.i
