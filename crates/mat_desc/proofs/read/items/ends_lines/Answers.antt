use Rattle.mat_desc.proofs.Common.{err_from_is_err_and, repeat_at, ends_line_at, naming, lines_left, repeat_more, repeat_done, repeat_refused}
use Rattle.mat_desc.proofs.read.items.ends_lines.Goals as goal

pub returns-in_err-ends : goal.returns-in_err-ends
returns-in_err-ends c =
    let reader = ends_line_at (naming c.args.names) c.args.key.now c.args.vertices in
    let p = err_from_is_err_and c.from_residual.result c.from_residual.ensures.1 in
    rw (p.1, p.2) (repeat_refused reader c.in_err-ends.field-0.0 c.loop.pairs.items c.args.many
    c.loop.counter (lines_left c.loop.rest) (repeat_at reader c.args.many (lines_left c.args.lines))
    c.loop-test.true c.in_err-ends.ensures c.loop.invariant)

pub loop-preserved : goal.loop-preserved
loop-preserved c =
    let reader = ends_line_at (naming c.args.names) c.args.key.now c.args.vertices in
    rw c.in_ok-push.ensures.items (repeat_more reader c.loop.pairs.items c.args.many c.loop.counter
    (lines_left c.loop.rest) c.in_ok-ends.ends (lines_left c.in_ok-ends.after)
    (repeat_at reader c.args.many (lines_left c.args.lines)) c.loop-test.true c.in_ok-ends.ensures
    c.loop.invariant)

pub returns : goal.returns
returns c =
    let reader = ends_line_at (naming c.args.names) c.args.key.now c.args.vertices in
    rw c.new.ensures (repeat_done reader c.loop.pairs.items c.args.many c.loop.counter
    (lines_left c.loop.rest) (repeat_at reader c.args.many (lines_left c.args.lines))
    c.loop-test.false c.loop.invariant)
