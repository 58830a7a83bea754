-- The arcs so far that enter the set.
use Rattle.mat_reasons.proofs.Common.{◌≡◌, ends_of, enters, those_below}
use Rattle.mat_reasons.proofs.between.entering.Given as goal

abbrev pub invariant-loop-e : goal.invariant-loop-e
invariant-loop-e l = l.entering ≡ those_below l.e (enters (ends_of l.arcs) l.set)
