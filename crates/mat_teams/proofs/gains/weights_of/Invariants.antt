use Rattle.std.proofs.Common.{◌≡◌, length}
use Rattle.mat_sets.specs.Limits.{largest_weight}
use Rattle.mat_sets.specs.Weights.{AreWeightsWithin}
use Rattle.mat_teams.proofs.gains.weights_of.Given as goal

abbrev pub invariant-loop-gain : goal.invariant-loop-gain
invariant-loop-gain l = record {
  long : length l.weights.items ≡ l.gain-index;
  small : AreWeightsWithin largest_weight l.weights.items;
}
