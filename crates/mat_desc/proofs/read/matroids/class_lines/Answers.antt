use Rattle.mat_desc.proofs.Common.{[], err_from_is_err_and, classes_at, naming, lines_left}
use Rattle.mat_desc.proofs.Classes.{classes_more, classes_fail, classes_done}
use Rattle.mat_desc.proofs.read.matroids.class_lines.Goals as goal

pub returns-in_err-cap : goal.returns-in_err-cap
returns-in_err-cap c =
    let names = naming c.args.names in
    let p = err_from_is_err_and c.from_residual.result c.from_residual.ensures.1 in
    rw (p.1, p.2) (classes_fail c.in_err-cap.field-0.0 names c.args.count c.args.many c.loop.counter c.loop.taken (lines_left c.loop.rest)
    c.loop.classes.items c.loop.caps.items (classes_at names c.args.count c.args.many [] (lines_left c.args.lines)) c.loop-test.true
    c.in_err-cap.ensures c.loop.invariant)

pub loop-preserved : goal.loop-preserved
loop-preserved c =
    let names = naming c.args.names in
    rw (c.in_ok-push.ensures.items, c.in_ok-push-2.ensures.items)
    (classes_more names c.args.count c.args.many c.loop.counter c.loop.taken (lines_left c.loop.rest) c.loop.classes.items c.loop.caps.items
    c.in_ok-cap.cap c.in_ok-cap.class c.class_line.new.taken (lines_left c.in_ok-cap.after)
    (classes_at names c.args.count c.args.many [] (lines_left c.args.lines)) c.loop-test.true c.in_ok-cap.ensures c.loop.invariant)

pub returns : goal.returns
returns c =
    let names = naming c.args.names in
    rw c.new.ensures.items
    (classes_done names c.args.count c.args.many c.loop.counter c.loop.taken (lines_left c.loop.rest) c.loop.classes.items c.loop.caps.items
    (classes_at names c.args.count c.args.many [] (lines_left c.args.lines)) c.loop-test.false c.loop.invariant)
