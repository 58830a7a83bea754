use Rattle.mat_packing.proofs.Common.{◌+◌, ◌-◌, ◌*◌, ◌<◌, length, all_below, minus, IsSet, rank, AreFilledCopies}
use Rattle.mat_packing.proofs.packing.pack_bases.Given as goal

abbrev pub invariant-loop-alloc : goal.invariant-loop-alloc
invariant-loop-alloc g l = record {
  filled : AreFilledCopies (g.M.Matroid.ground_size l.m) (g.M.Matroid.indep l.m) l.count l.filled.parts l.filled.cut;
  set : IsSet (g.M.Matroid.ground_size l.m) l.cut;
  short : length (minus (all_below (g.M.Matroid.ground_size l.m)) l.cut) < (l.count + 1) * (rank (g.M.Matroid.indep l.m) (all_below (g.M.Matroid.ground_size l.m)) - rank (g.M.Matroid.indep l.m) l.cut);
}

abbrev pub decreases-loop-alloc : goal.decreases-loop-alloc
decreases-loop-alloc g l = l.count
