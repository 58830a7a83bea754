use Rattle.mat_greedy.proofs.Common.{weight_at}
use Rattle.mat_greedy.proofs.Climbing.{IsClimbingAndTracing}
use Rattle.mat_greedy.proofs.greedy.heaviest_each.Given as goal

abbrev pub invariant-loop-x : goal.invariant-loop-x
invariant-loop-x g l = IsClimbingAndTracing (g.M.Matroid.indep l.m) (weight_at l.weights) l.x-items l.x-index l.set l.sets.items
