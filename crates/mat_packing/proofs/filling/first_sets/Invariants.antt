use Rattle.mat_packing.proofs.FirstSets.{AreFirstSets}
use Rattle.mat_packing.proofs.filling.first_sets.Given as goal

abbrev pub invariant-loop : goal.invariant-loop
invariant-loop g l = AreFirstSets (g.M.Matroid.ground_size l.m) (g.M.Matroid.indep l.m) l.counter l.sets.items l.rest
