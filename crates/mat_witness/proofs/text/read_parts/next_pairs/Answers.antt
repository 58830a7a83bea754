use Rattle.mat_witness.proofs.Common.{err_from_is_err_and, words_left, repeat_at, repeat_more, repeat_done, repeat_refused, pair_at}
use Rattle.mat_witness.proofs.text.read_parts.next_pairs.Goals as goal

pub returns-in_err-pair : goal.returns-in_err-pair
returns-in_err-pair c =
    let reader = pair_at c.args.count c.args.vertices in
    let p = err_from_is_err_and c.from_residual.result c.from_residual.ensures.1 in
    rw (p.1, p.2) (repeat_refused reader c.in_err-pair.field-0.0 c.loop.pairs.items c.args.many c.loop.counter (words_left c.loop.rest)
    (repeat_at reader c.args.many (words_left c.args.words)) c.loop-test.true c.in_err-pair.ensures c.loop.invariant)

pub loop-preserved : goal.loop-preserved
loop-preserved c =
    let reader = pair_at c.args.count c.args.vertices in
    rw c.in_ok-push.ensures.items (repeat_more reader c.loop.pairs.items c.args.many c.loop.counter (words_left c.loop.rest)
    c.in_ok-pair.pair (words_left c.in_ok-pair.after)
    (repeat_at reader c.args.many (words_left c.args.words)) c.loop-test.true c.in_ok-pair.ensures c.loop.invariant)

pub returns : goal.returns
returns c =
    let reader = pair_at c.args.count c.args.vertices in
    rw c.new.ensures (repeat_done reader c.loop.pairs.items c.args.many c.loop.counter (words_left c.loop.rest)
    (repeat_at reader c.args.many (words_left c.args.words)) c.loop-test.false c.loop.invariant)
