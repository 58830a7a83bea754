use Rattle.mat_sets.proofs.Common.{◌≡◌, ◌*◌, ◌^◌, take, weight, IsWeightWithin}
use Rattle.mat_sets.proofs.pair_weights.weigh.Given as goal

abbrev pub invariant-loop-x : goal.invariant-loop-x
invariant-loop-x l = record {
  so_far : l.sum ≡ weight l.weights (take l.x-index l.set);
  small : IsWeightWithin (10 ^ 30 * l.x-index) l.sum;
}
