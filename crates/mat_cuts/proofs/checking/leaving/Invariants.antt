use Rattle.mat_cuts.proofs.Common.{None, take, ends_of, TellsLeaving}
use Rattle.mat_cuts.proofs.checking.leaving.Given as goal

abbrev pub invariant-loop-a : goal.invariant-loop-a
invariant-loop-a l = TellsLeaving (ends_of l.arcs) (take l.a-index l.tree) l.reached None
