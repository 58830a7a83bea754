use Rattle.mat_sets.proofs.Common.{◌≡◌, [], take, union}
use Rattle.mat_sets.proofs.elem_set.ElemSet.from_members.Given as goal

abbrev pub invariant-loop-x : goal.invariant-loop-x
invariant-loop-x l = l.set ≡ union (take l.x-index l.items) []
