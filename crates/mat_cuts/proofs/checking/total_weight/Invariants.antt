use Rattle.mat_cuts.proofs.Common.{◌≡◌, ◌*◌, ◌^◌, take, IsWithin, all_weight}
use Rattle.mat_cuts.proofs.checking.total_weight.Given as goal

abbrev pub invariant-loop-cut : goal.invariant-loop-cut
invariant-loop-cut l = record {
  so_far : l.total ≡ all_weight (take l.cut-index l.cuts);
  small : IsWithin (10 ^ 30 * l.cut-index) l.total;
}
