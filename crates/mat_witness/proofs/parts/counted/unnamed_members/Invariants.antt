use Rattle.mat_witness.proofs.Common.{◌≡◌, None, get_or, take, is_unnamed}
use Rattle.std.specs.List.{filter}
use Rattle.mat_witness.proofs.parts.counted.unnamed_members.Given as goal

abbrev pub invariant-loop-x : goal.invariant-loop-x
invariant-loop-x l = l.members ≡ filter (λ x. is_unnamed (get_or l.named x None)) (take l.x-index l.set)
