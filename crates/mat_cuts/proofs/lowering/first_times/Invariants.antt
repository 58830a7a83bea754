use Rattle.mat_cuts.proofs.Loops.{AreFirstTimes}
use Rattle.mat_cuts.proofs.lowering.first_times.Given as goal

abbrev pub invariant-loop-cost : goal.invariant-loop-cost
invariant-loop-cost l = AreFirstTimes l.costs l.since.items l.cost-index
