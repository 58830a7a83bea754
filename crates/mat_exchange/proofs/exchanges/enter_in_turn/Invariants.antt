use Rattle.mat_exchange.proofs.Common.{rows_of, IsFilledTable, entered_to}
use Rattle.mat_exchange.proofs.exchanges.enter_in_turn.Given as goal

abbrev pub invariant-loop-x : goal.invariant-loop-x
invariant-loop-x g l = IsFilledTable (rows_of (g.M.Matroid.ground_size l.m) (g.M.Matroid.indep l.m) l.set) (entered_to l.missing l.x)
    l.table.addable l.table.rows l.table.columns
