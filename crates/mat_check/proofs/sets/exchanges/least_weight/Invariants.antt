-- The least weight of the elements so far.
use Rattle.mat_check.proofs.Common.{take, weight_at, IsLeastWeightOrNone}
use Rattle.mat_check.proofs.sets.exchanges.least_weight.Given as goal

abbrev pub invariant-loop-y : goal.invariant-loop-y
invariant-loop-y l = IsLeastWeightOrNone (weight_at l.weights) (take l.y-index l.elements) l.least
