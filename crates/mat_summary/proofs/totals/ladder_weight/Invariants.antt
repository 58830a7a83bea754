use Rattle.mat_summary.proofs.Common.{◌≡◌, ◌*◌, ◌^◌, take, IsWeightWithin, ladder_weight}
use Rattle.mat_summary.proofs.totals.ladder_weight.Given as goal

abbrev pub invariant-loop-rung : goal.invariant-loop-rung
invariant-loop-rung l = record {
  so_far : l.sum ≡ ladder_weight (take l.rung-index l.rungs);
  small : IsWeightWithin (10 ^ 30 * l.rung-index) l.sum;
}
