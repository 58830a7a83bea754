use Rattle.mat_check.proofs.Common.{◌≡◌, length, sym, subst, IfOk, and_parts, eqb-true, column_at, row_at, is_once, first_failure, ladder_clauses}
use Rattle.mat_check.proofs.graph_answers.table_failure.Goals as goal

pub returns : goal.returns
returns g c =
    let cells = c.args.cells.now in
    let header = rw c.in-Assign.is at c.requires.header in
    let count : c.in-Assign.count ≡ length cells = eqb-true c.in-Assign.count (length cells) (and_parts _ _ header).0 in
    rw c.in-Assign.is (subst
    (λ n. IfOk c.assign_failure.result (λ found. found ≡ first_failure (ladder_clauses n (is_once n c.args.rows (row_at cells))
    (is_once n c.args.columns (column_at cells)) c.args.weights.now c.in-Assign.rungs.items c.in-Assign.cut)))
    (sym count) (rw (c.as_slice.ensures, c.deref.ensures.value) at c.assign_failure.ensures))
