use Rattle.mat_exchange.proofs.Common.{◌∙◌, ap, is_member}
use Rattle.mat_exchange.proofs.RowTables.{has_column, column_tells}
use Rattle.mat_exchange.proofs.row_table.RowTable.rest_of_column.Goals as goal

pub row-requires : goal.row-requires
row-requires c = has_column c.self.inside.base c.self.invariant _ c.self.view_is _ c.requires

pub returns : goal.returns
returns c = λ x. ap (is_member x) (c.as_words.ensures.bits ∙ c.row.ensures) ∙ column_tells c.self.inside.base c.self.invariant _ c.self.view_is c.args.y x c.requires
