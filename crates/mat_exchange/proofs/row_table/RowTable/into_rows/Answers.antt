use Rattle.mat_exchange.proofs.Common.{length, ◌∙◌, sym, ap}
use Rattle.mat_exchange.proofs.RowTables.{column_tells, length-table_of, written_row}
use Rattle.mat_exchange.proofs.row_table.RowTable.into_rows.Goals as goal

pub returns-clause-count : goal.returns-clause-count
returns-clause-count c = sym (length-table_of c.self.inside.base c.self.inside.addable c.self.inside.rows) ∙ ap length c.self.view_is

pub returns-clause-columns : goal.returns-clause-columns
returns-clause-columns c =
    c.self.invariant.count ∙ sym (length-table_of c.self.inside.base c.self.inside.addable c.self.inside.rows) ∙ ap length c.self.view_is

pub returns-clause-rows : goal.returns-clause-rows
returns-clause-rows c = λ x. written_row c.self.inside.base c.self.invariant _ c.self.view_is x

pub returns-clause-transposed : goal.returns-clause-transposed
returns-clause-transposed c = λ y x within. column_tells c.self.inside.base c.self.invariant _ c.self.view_is y x within
