use Rattle.mat_exchange.proofs.Common.{take, exchanges_in}
use Rattle.mat_exchange.proofs.PutElements.{ArePut}
use Rattle.mat_exchange.proofs.row_table.RowTable.unite_unaddable.Given as goal

abbrev pub invariant-loop-x : goal.invariant-loop-x
invariant-loop-x l = ArePut (exchanges_in l.self) (take l.x-index l.elements) l.fn.into l.into
