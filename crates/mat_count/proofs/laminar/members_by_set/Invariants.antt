use Rattle.mat_count.proofs.Common.{take, CountsMembers}
use Rattle.mat_count.proofs.laminar.members_by_set.Given as goal

abbrev pub invariant-loop-i : goal.invariant-loop-i
invariant-loop-i l = CountsMembers l.sets (take l.i l.set) l.numbers.items
