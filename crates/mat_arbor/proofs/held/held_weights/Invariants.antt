use Rattle.mat_arbor.proofs.Common.{ends_of, AreHeldWeights}
use Rattle.mat_arbor.proofs.held.held_weights.Given as goal

abbrev pub invariant-loop-a : goal.invariant-loop-a
invariant-loop-a l = AreHeldWeights l.a (ends_of l.arcs) l.cuts l.held.items
