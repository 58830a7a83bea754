use Rattle.mat_desc.proofs.Common.{err_from_is_err_and, repeat_at, column_at, lines_left, repeat_more, repeat_done, repeat_refused}
use Rattle.mat_desc.proofs.read.items.column_lines.Goals as goal

pub returns-in_err-column : goal.returns-in_err-column
returns-in_err-column c =
    let p = err_from_is_err_and c.from_residual.result c.from_residual.ensures.1 in
    rw (p.1, p.2) (repeat_refused (column_at c.args.dim) c.in_err-column.field-0.0 c.loop.columns.items c.args.many c.loop.counter
    (lines_left c.loop.rest) (repeat_at (column_at c.args.dim) c.args.many (lines_left c.args.lines)) c.loop-test.true
    c.in_err-column.ensures c.loop.invariant)

pub loop-preserved : goal.loop-preserved
loop-preserved c =
    rw c.in_ok-push.ensures.items (repeat_more (column_at c.args.dim) c.loop.columns.items c.args.many c.loop.counter (lines_left c.loop.rest)
    c.in_ok-column.column (lines_left c.in_ok-column.after) (repeat_at (column_at c.args.dim) c.args.many (lines_left c.args.lines))
    c.loop-test.true c.in_ok-column.ensures c.loop.invariant)

pub returns : goal.returns
returns c = repeat_done (column_at c.args.dim) c.loop.columns.items c.args.many c.loop.counter (lines_left c.loop.rest)
    (repeat_at (column_at c.args.dim) c.args.many (lines_left c.args.lines)) c.loop-test.false c.loop.invariant
