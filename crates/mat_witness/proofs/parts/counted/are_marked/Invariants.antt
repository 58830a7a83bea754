use Rattle.mat_witness.proofs.Common.{◌≡◌, true, take, is_member}
use Rattle.std.specs.List.{list_all}
use Rattle.mat_witness.proofs.parts.counted.are_marked.Given as goal

abbrev pub invariant-loop-x : goal.invariant-loop-x
invariant-loop-x l = list_all (λ x. is_member x l.marks) (take l.x-index l.set) ≡ true
