use Rattle.mat_exchange.proofs.Common.{◌∙◌, ap, sym, is_member}
use Rattle.mat_exchange.proofs.RowTables.{base_tells, has_row, row_tells}
use Rattle.mat_exchange.proofs.row_table.RowTable.trades.Goals as goal

pub returns-then-contains : goal.returns-then-contains
returns-then-contains c =
    c.contains-then-contains.ensures ∙ base_tells c.self.inside.base c.self.invariant _ c.self.view_is c.args.y c.args.x (sym c.contains.ensures ∙ c.if-contains.true)

pub row-requires : goal.row-requires
row-requires c = has_row c.self.inside.base c.self.invariant _ c.self.view_is _ c.requires.element

pub returns-else-contains : goal.returns-else-contains
returns-else-contains c =
    c.contains-else-contains.ensures ∙ ap (is_member c.args.y) c.row.ensures
    ∙ row_tells c.self.inside.base c.self.invariant _ c.self.view_is c.args.y c.args.x (sym c.contains.ensures ∙ c.if-contains.false)
