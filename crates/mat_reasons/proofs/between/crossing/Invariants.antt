-- The edges so far whose ends are in different classes.
use Rattle.mat_reasons.proofs.Common.{◌≡◌, not, ends_of, those_below, are_together}
use Rattle.mat_reasons.proofs.between.crossing.Given as goal

abbrev pub invariant-loop-e : goal.invariant-loop-e
invariant-loop-e l = l.crossing ≡ those_below l.e (λ k. not (are_together l.classes (ends_of l.edges k).0 (ends_of l.edges k).1))
