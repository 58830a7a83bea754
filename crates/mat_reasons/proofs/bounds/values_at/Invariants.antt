-- The weights of the members so far.
use Rattle.mat_reasons.proofs.Common.{◌≡◌, map, take, weight_at}
use Rattle.mat_reasons.proofs.bounds.values_at.Given as goal

abbrev pub invariant-loop-e : goal.invariant-loop-e
invariant-loop-e l = l.values.items ≡ map (weight_at l.weights) (take l.e-index l.set)
