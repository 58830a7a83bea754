use Rattle.mat_cuts.proofs.Common.{take, ends_of}
use Rattle.mat_cuts.proofs.Loops.{IsBest}
use Rattle.mat_cuts.proofs.growing.earliest.Given as goal

abbrev pub invariant-loop-a : goal.invariant-loop-a
invariant-loop-a l = IsBest (ends_of l.arcs) l.since l.reached (take l.a-index l.timed) l.best l.found
