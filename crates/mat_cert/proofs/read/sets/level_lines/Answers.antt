use Rattle.mat_cert.proofs.Common.{err_from_is_err_and, lines_left, repeat_at, repeat_more, repeat_refused, repeat_done, level_at}
use Rattle.mat_cert.proofs.read.sets.level_lines.Goals as goal

pub returns-in_err-level : goal.returns-in_err-level
returns-in_err-level c =
    let p = err_from_is_err_and c.from_residual.result c.from_residual.ensures.1 in
    rw (p.1, p.2) (repeat_refused (level_at c.args.count) c.in_err-level.field-0.0 c.loop.levels.items c.args.many c.loop.counter
    (lines_left c.loop.rest)
    (repeat_at (level_at c.args.count) c.args.many (lines_left c.args.lines)) c.loop-test.true c.in_err-level.ensures c.loop.invariant)

pub loop-preserved : goal.loop-preserved
loop-preserved c =
    rw c.in_ok-push.ensures.items (repeat_more (level_at c.args.count) c.loop.levels.items c.args.many c.loop.counter (lines_left c.loop.rest)
    c.in_ok-level.level (lines_left c.in_ok-level.after)
    (repeat_at (level_at c.args.count) c.args.many (lines_left c.args.lines)) c.loop-test.true c.in_ok-level.ensures c.loop.invariant)

pub returns : goal.returns
returns c =
    repeat_done (level_at c.args.count) c.loop.levels.items c.args.many c.loop.counter (lines_left c.loop.rest)
    (repeat_at (level_at c.args.count) c.args.many (lines_left c.args.lines)) c.loop-test.false c.loop.invariant
