use Rattle.mat_count.proofs.Common.{take, IsClassTable}
use Rattle.mat_count.proofs.partition.class_table.Given as goal

abbrev pub invariant-loop-place : goal.invariant-loop-place
invariant-loop-place l = IsClassTable l.count (take l.place l.classes) l.class_of.items
