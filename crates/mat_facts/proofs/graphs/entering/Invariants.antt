-- The arcs so far that enter the set.
use Rattle.mat_facts.proofs.Common.{◌≡◌, ends_of, enters}
use Rattle.mat_sets.specs.Search.{those_below}
use Rattle.mat_facts.proofs.graphs.entering.Given as goal

abbrev pub invariant-loop-a : goal.invariant-loop-a
invariant-loop-a l = l.found ≡ those_below l.a (enters (ends_of l.arcs) l.set)
