use Rattle.mat_cert.proofs.Common.{err_from_is_err_and, lines_left, priced_rung_at, rungs_at}
use Rattle.mat_cert.proofs.RungLists.{rungs_more, rungs_fail, rungs_done}
use Rattle.mat_cert.proofs.read.ladders.priced_rungs.Goals as goal

pub returns-in_err-rung : goal.returns-in_err-rung
returns-in_err-rung c =
    let p = err_from_is_err_and c.from_residual.result c.from_residual.ensures.1 in
    rw (p.1, p.2) (rungs_fail (priced_rung_at c.args.count) c.in_err-rung.field-0.0 c.loop-k.rungs.items c.args.many c.loop-k.k
    (lines_left c.loop-k.rest)
    (rungs_at (priced_rung_at c.args.count) 0 c.args.many (lines_left c.args.lines)) c.loop-k-test.true c.in_err-rung.ensures c.loop-k.invariant)

pub loop-k-preserved : goal.loop-k-preserved
loop-k-preserved c =
    rw c.in_ok-push.ensures.items (rungs_more (priced_rung_at c.args.count) c.loop-k.rungs.items c.args.many c.loop-k.k (lines_left c.loop-k.rest)
    c.in_ok-rung.rung (lines_left c.in_ok-rung.after)
    (rungs_at (priced_rung_at c.args.count) 0 c.args.many (lines_left c.args.lines)) c.loop-k-test.true c.in_ok-rung.ensures c.loop-k.invariant)

pub returns : goal.returns
returns c =
    rungs_done (priced_rung_at c.args.count) c.loop-k.rungs.items c.args.many c.loop-k.k (lines_left c.loop-k.rest)
    (rungs_at (priced_rung_at c.args.count) 0 c.args.many (lines_left c.args.lines)) c.loop-k-test.false c.loop-k.invariant
