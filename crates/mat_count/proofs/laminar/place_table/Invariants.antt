use Rattle.mat_count.proofs.Common.{take, IsPlaceTable}
use Rattle.mat_count.proofs.laminar.place_table.Given as goal

abbrev pub invariant-loop-place : goal.invariant-loop-place
invariant-loop-place l = IsPlaceTable l.count (take l.place l.sets) l.table.items
