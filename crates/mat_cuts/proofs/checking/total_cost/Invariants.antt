use Rattle.mat_cuts.proofs.Common.{◌≡◌, ◌*◌, ◌^◌, ◌≤ℤ◌, pos, take, cost_of}
use Rattle.mat_cuts.proofs.checking.total_cost.Given as goal

abbrev pub invariant-loop-a : goal.invariant-loop-a
invariant-loop-a l = record {
  so_far : l.total ≡ cost_of l.costs (take l.a-index l.arcs);
  low : pos 0 ≤ℤ l.total;
  high : l.total ≤ℤ pos (10 ^ 12 * l.a-index);
}
