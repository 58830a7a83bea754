use Rattle.mat_count.proofs.Common.{take, CountsMembers}
use Rattle.mat_count.proofs.partition.members_by_class.Given as goal

abbrev pub invariant-loop-i : goal.invariant-loop-i
invariant-loop-i l = CountsMembers l.classes (take l.i l.set) l.numbers.items
