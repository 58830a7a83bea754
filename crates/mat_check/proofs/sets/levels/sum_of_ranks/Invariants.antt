-- The ranks so far are added.
use Rattle.mat_check.proofs.Common.{◌≤◌, ◌*◌, ◌^◌}
use Rattle.mat_check.proofs.AddedRanks.{AreAdded}
use Rattle.mat_check.proofs.sets.levels.sum_of_ranks.Given as goal

abbrev pub invariant-loop-i : goal.invariant-loop-i
invariant-loop-i g l = record {
  added : AreAdded g.M.Matroid.indep l.matroids l.set l.i l.sum;
  small : l.sum ≤ l.i * 2 ^ 32;
}
