use Rattle.mat_exchange.proofs.Common.{◌≡◌, List, length, Exchange, AgreeOn, IsFilledTable, entered_to}
use Rattle.mat_exchange.proofs.exchanges.enter_rows.Given as goal

abbrev pub invariant-loop-x : goal.invariant-loop-x
invariant-loop-x l = (rows : List Exchange) → length rows ≡ length l.exchanges → AgreeOn l.missing l.exchanges rows
    → IsFilledTable rows (entered_to l.missing 0) l.fn.table.addable l.fn.table.rows l.fn.table.columns
    → IsFilledTable rows (entered_to l.missing l.x) l.table.addable l.table.rows l.table.columns
