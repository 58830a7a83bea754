use Rattle.mat_count.proofs.Common.{take, IsClassEntered}
use Rattle.mat_count.proofs.partition.enter.Given as goal

abbrev pub invariant-loop-i : goal.invariant-loop-i
invariant-loop-i l = IsClassEntered l.fn.class_of (take l.i l.class) l.place l.class_of
