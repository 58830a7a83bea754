use Rattle.mat_arbor.proofs.Common.{◌≡◌, map, take, weight_of}
use Rattle.mat_arbor.proofs.halves.first_half.Given as goal

abbrev pub invariant-loop-x : goal.invariant-loop-x
invariant-loop-x l = l.all.items ≡ map (weight_of l.unit l.shift) (take l.x-index l.held)
