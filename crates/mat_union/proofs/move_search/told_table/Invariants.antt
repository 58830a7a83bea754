use Rattle.mat_union.proofs.Common.{IsToldTable}
use Rattle.mat_union.proofs.move_search.told_table.Given as goal

abbrev pub invariant-loop-k : goal.invariant-loop-k
invariant-loop-k l = IsToldTable l.elements l.k l.queue l.told l.table
