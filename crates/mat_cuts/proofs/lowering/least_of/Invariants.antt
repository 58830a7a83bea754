use Rattle.mat_cuts.proofs.Loops.{IsLeastSoFar}
use Rattle.mat_cuts.proofs.lowering.least_of.Given as goal

abbrev pub invariant-loop-a : goal.invariant-loop-a
invariant-loop-a l = IsLeastSoFar l.arcs l.reduced l.a-index l.best
