use Rattle.mat_witness.proofs.Common.{◌≡◌, length, take, intersection}
use Rattle.mat_witness.proofs.parts.counted.count_marked.Given as goal

abbrev pub invariant-loop-x : goal.invariant-loop-x
invariant-loop-x l = l.number ≡ length (intersection (take l.x-index l.set) l.marks)
