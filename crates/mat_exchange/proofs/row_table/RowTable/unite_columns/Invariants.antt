use Rattle.mat_exchange.proofs.Common.{take, exchanges_in}
use Rattle.mat_exchange.proofs.PutElements.{AreUnited}
use Rattle.mat_exchange.proofs.row_table.RowTable.unite_columns.Given as goal

abbrev pub invariant-loop-y : goal.invariant-loop-y
invariant-loop-y l = AreUnited (exchanges_in l.self) (take l.y-index l.members) l.fn.into l.into
