use Rattle.mat_fronts.proofs.Common.{◌∙◌}
use Rattle.std.proofs.lemmas.Result.{IfOk-weaker}
use Rattle.mat_fronts.proofs.Ladders.{assignment_made}
use Rattle.mat_fronts.proofs.assignment.assign.Goals as goal

pub returns : goal.returns
returns c = IfOk-weaker c.intersect_in_turn.result _ _ (λ l h.
    assignment_made c.args.rows c.args.columns c.args.cells.now c.args.weights.now l.rungs.items l.cut c.deref.result.now c.deref-2.result.now
    c.in_ok-by_row.by_row c.in_ok-by_column.by_column (c.deref.ensures.value ∙ c.in_ok-row_of.ensures)
    (c.deref-2.ensures.value ∙ c.in_ok-column_of.ensures) c.in_ok-by_row.ensures.value c.in_ok-by_column.ensures.value h) c.intersect_in_turn.ensures
