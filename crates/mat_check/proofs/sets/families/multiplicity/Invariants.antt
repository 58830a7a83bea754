-- The first i sets are counted, and no more than there are of them.
use Rattle.mat_check.proofs.Common.{◌≤◌}
use Rattle.mat_check.proofs.Multiplicities.{IsCounted}
use Rattle.mat_check.proofs.sets.families.multiplicity.Given as goal

abbrev pub invariant-loop-i : goal.invariant-loop-i
invariant-loop-i l = record {
  counted : IsCounted l.e l.sets l.i l.count;
  few : l.count ≤ l.i;
}
