use Rattle.mat_count.proofs.CrossingWalks.{NestedBefore}
use Rattle.mat_count.proofs.laminar.first_pair.Given as goal

abbrev pub invariant-loop-b : goal.invariant-loop-b
invariant-loop-b l = NestedBefore l.sets l.b
