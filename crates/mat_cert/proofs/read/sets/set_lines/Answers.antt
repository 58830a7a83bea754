use Rattle.mat_cert.proofs.Common.{err_from_is_err_and, lines_left, repeat_at, repeat_more, repeat_refused, repeat_done, set_at}
use Rattle.mat_cert.proofs.read.sets.set_lines.Goals as goal

pub returns-in_err-set : goal.returns-in_err-set
returns-in_err-set c =
    let p = err_from_is_err_and c.from_residual.result c.from_residual.ensures.1 in
    rw (p.1, p.2) (repeat_refused (set_at c.args.key.now c.args.bound) c.in_err-set.field-0.0 c.loop.sets.items c.args.many c.loop.counter
    (lines_left c.loop.rest)
    (repeat_at (set_at c.args.key.now c.args.bound) c.args.many (lines_left c.args.lines)) c.loop-test.true c.in_err-set.ensures c.loop.invariant)

pub loop-preserved : goal.loop-preserved
loop-preserved c =
    rw c.in_ok-push.ensures.items (repeat_more (set_at c.args.key.now c.args.bound) c.loop.sets.items c.args.many c.loop.counter (lines_left c.loop.rest)
    c.in_ok-set.set (lines_left c.in_ok-set.after)
    (repeat_at (set_at c.args.key.now c.args.bound) c.args.many (lines_left c.args.lines)) c.loop-test.true c.in_ok-set.ensures c.loop.invariant)

pub returns : goal.returns
returns c =
    rw c.new.ensures.items (repeat_done (set_at c.args.key.now c.args.bound) c.loop.sets.items c.args.many c.loop.counter (lines_left c.loop.rest)
    (repeat_at (set_at c.args.key.now c.args.bound) c.args.many (lines_left c.args.lines)) c.loop-test.false c.loop.invariant)
