-- The weights so far are negated.
use Rattle.std.proofs.Common.{◌≡◌, map, take}
use Rattle.mat_sets.specs.Weights.{negated}
use Rattle.mat_tell.proofs.arborescences.opposite.Given as goal

abbrev pub invariant-loop-weight : goal.invariant-loop-weight
invariant-loop-weight l = l.others.items ≡ map negated (take l.weight-index l.weights)
