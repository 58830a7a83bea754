-- No clause of an element so far fails.
use Rattle.mat_check.proofs.Common.{◌≡◌, map, None, all_below, first_failure}
use Rattle.mat_check.proofs.Multiplicities.{overlap_clause}
use Rattle.mat_check.proofs.sets.families.overlap_failure.Given as goal

abbrev pub invariant-loop-e : goal.invariant-loop-e
invariant-loop-e l = first_failure (map (overlap_clause l.sets) (all_below l.e)) ≡ None
