-- The edges so far whose ends are in different groups.
use Rattle.mat_facts.proofs.Common.{◌≡◌, not, ends_of}
use Rattle.mat_sets.specs.Search.{those_below}
use Rattle.mat_packing.specs.Trees.{stays}
use Rattle.mat_facts.proofs.graphs.crossing.Given as goal

abbrev pub invariant-loop-e : goal.invariant-loop-e
invariant-loop-e l = l.found ≡ those_below l.e (λ e. not (stays (ends_of l.edges) l.classes e))
