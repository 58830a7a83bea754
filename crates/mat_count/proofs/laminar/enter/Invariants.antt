use Rattle.mat_count.proofs.Common.{take, IsPlaced}
use Rattle.mat_count.proofs.laminar.enter.Given as goal

abbrev pub invariant-loop-i : goal.invariant-loop-i
invariant-loop-i l = IsPlaced l.fn.table (take l.i l.set) l.place l.table
