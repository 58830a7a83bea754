use Rattle.mat_exchange.proofs.Common.{◌||◌, ◌∙◌, false, cond, refl, ap, is_member}
use Rattle.mat_exchange.proofs.RowTables.{has_column, column_tells, whole_column}
use Rattle.mat_exchange.proofs.row_table.RowTable.column.Goals as goal

pub row-requires : goal.row-requires
row-requires c = has_column c.self.inside.base c.self.invariant _ c.self.view_is _ c.requires

pub returns : goal.returns
returns c = λ x.
    let y = c.args.y in
    let base = c.self.inside.base in
    let all = is_member y base in
    c.in_ok-unite_row.ensures.ok x ∙ ap (λ b. b || is_member x c.row.result.now) (c.in_ok-column.ensures x)
    ∙ ap (λ b. cond all (is_member x c.self.inside.addable) false || b)
    (ap (is_member x) c.row.ensures ∙ column_tells base c.self.invariant _ c.self.view_is y x c.requires)
    ∙ whole_column base c.self.invariant _ c.self.view_is y x all refl
