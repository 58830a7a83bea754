use Rattle.mat_greedy.proofs.Common.{weight_at}
use Rattle.mat_greedy.proofs.Weighing.{IsSumming}
use Rattle.mat_greedy.proofs.greedy.heaviest_weights.Given as goal

-- the weights so far are those of heaviest sets, and the sum is the last of them
abbrev pub invariant-loop-x : goal.invariant-loop-x
invariant-loop-x g l = IsSumming (g.M.Matroid.indep l.m) (weight_at l.weights) l.x-items l.x-index l.sum l.sums.items
