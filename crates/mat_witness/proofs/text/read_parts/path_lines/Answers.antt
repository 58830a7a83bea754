use Rattle.mat_witness.proofs.Common.{err_from_is_err_and, lines_left, repeat_at, repeat_more, repeat_done, repeat_refused, path_at}
use Rattle.mat_witness.proofs.text.read_parts.path_lines.Goals as goal

pub returns-in_err-path : goal.returns-in_err-path
returns-in_err-path c =
    let reader = path_at c.args.vertices in
    let p = err_from_is_err_and c.from_residual.result c.from_residual.ensures.1 in
    rw (p.1, p.2) (repeat_refused reader c.in_err-path.field-0.0 c.loop.paths.items c.args.many c.loop.counter (lines_left c.loop.rest)
    (repeat_at reader c.args.many (lines_left c.args.lines)) c.loop-test.true c.in_err-path.ensures c.loop.invariant)

pub loop-preserved : goal.loop-preserved
loop-preserved c =
    let reader = path_at c.args.vertices in
    rw c.in_ok-push.ensures.items (repeat_more reader c.loop.paths.items c.args.many c.loop.counter (lines_left c.loop.rest)
    c.in_ok-path.path (lines_left c.in_ok-path.after)
    (repeat_at reader c.args.many (lines_left c.args.lines)) c.loop-test.true c.in_ok-path.ensures c.loop.invariant)

pub returns : goal.returns
returns c =
    let reader = path_at c.args.vertices in
    repeat_done reader c.loop.paths.items c.args.many c.loop.counter (lines_left c.loop.rest)
    (repeat_at reader c.args.many (lines_left c.args.lines)) c.loop-test.false c.loop.invariant
