-- No clause of an element so far fails.
use Rattle.mat_check.proofs.Common.{◌≡◌, map, None, all_below, first_failure}
use Rattle.mat_check.proofs.Multiplicities.{missed_clause}
use Rattle.mat_check.proofs.sets.families.missed_failure.Given as goal

abbrev pub invariant-loop-e : goal.invariant-loop-e
invariant-loop-e l = first_failure (map (missed_clause l.sets) (all_below l.e)) ≡ None
