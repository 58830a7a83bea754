-- No set before this is other than a spanning arborescence.
use Rattle.mat_check.proofs.Common.{[], ◌∷◌, ends_of, arborescence_clause}
use Rattle.mat_check.proofs.NumberedFailures.{IsPassed}
use Rattle.mat_check.proofs.graphs.disjoint_arborescences.spanning_failure.Given as goal

abbrev pub invariant-loop-i : goal.invariant-loop-i
invariant-loop-i l = IsPassed (λ i tree. arborescence_clause l.graph.vertices (ends_of l.graph.arcs) l.root i tree ∷ []) l.trees l.i
