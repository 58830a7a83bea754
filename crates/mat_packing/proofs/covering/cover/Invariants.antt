use Rattle.mat_packing.proofs.Common.{◌-◌, ◌*◌, ◌<◌, ◌≤◌, length, IsSet, rank, AreFilledCopies}
use Rattle.mat_packing.proofs.covering.cover.Given as goal

abbrev pub invariant-loop-filled : goal.invariant-loop-filled
invariant-loop-filled g l = record {
  filled : AreFilledCopies (g.M.Matroid.ground_size l.m) (g.M.Matroid.indep l.m) l.count l.filled.parts l.filled.cut;
  set : IsSet (g.M.Matroid.ground_size l.m) l.cut;
  long : (l.count - 1) * rank (g.M.Matroid.indep l.m) l.cut < length l.cut;
  some : 0 < l.count;
  most : l.count ≤ g.M.Matroid.ground_size l.m;
}

abbrev pub decreases-loop-filled : goal.decreases-loop-filled
decreases-loop-filled g l = g.M.Matroid.ground_size l.m - l.count
