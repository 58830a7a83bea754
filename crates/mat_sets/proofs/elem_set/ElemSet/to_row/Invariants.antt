use Rattle.mat_sets.proofs.Common.{◌≡◌, take}
use Rattle.mat_sets.proofs.elem_set.ElemSet.to_row.Given as goal

abbrev pub invariant-loop-x : goal.invariant-loop-x
invariant-loop-x l = l.bits ≡ take l.x-index l.self
