use Rattle.mat_count.proofs.Common.{take}
use Rattle.mat_count.proofs.PlaceTables.{AreCounted}
use Rattle.mat_count.proofs.laminar.count_at.Given as goal

abbrev pub invariant-loop-k : goal.invariant-loop-k
invariant-loop-k l = AreCounted l.fn.numbers (take l.k l.places) l.numbers
