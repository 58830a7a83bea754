use Rattle.mat_exchange.proofs.EmptiedRows.{AreEmptiedTo}
use Rattle.mat_exchange.proofs.partial_table.empty_rows.Given as goal

abbrev pub invariant-loop-x : goal.invariant-loop-x
invariant-loop-x l = AreEmptiedTo l.elements l.x l.fn.rows l.rows
