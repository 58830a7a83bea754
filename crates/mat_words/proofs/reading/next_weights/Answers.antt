-- Each word adds a weight behind those so far; a fault of a word is the fault of the whole list.
use Rattle.mat_words.proofs.Common.{◌≡◌, arith, err_from_is_err_and, ints, words_left, repeat_at, weight_at, weights_at}
use mir.Val.{to_z, of_z}
use mir.Syntax.{w128}
use Rattle.mat_words.proofs.Repeats.{repeat_more, repeat_refused, repeat_done}
use Rattle.mat_words.proofs.reading.next_weights.Goals as goal

pub returns-in_err-weight : goal.returns-in_err-weight
unfolding weights_at
returns-in_err-weight c =
    let low = to_z w128 (of_z w128 c.args.low) in
    let high = to_z w128 (of_z w128 c.args.high) in
    let low_kept : low ≡ c.args.low = grind (arith, ints, c.ranges.low) in
    let high_kept : high ≡ c.args.high = grind (arith, ints, c.ranges.high) in
    let p = err_from_is_err_and c.from_residual.result c.from_residual.ensures.1 in
    let failed = repeat_refused (weight_at low high) c.in_err-weight.field-0.0 c.loop.weights.items c.args.count c.loop.counter (words_left c.loop.rest)
    (repeat_at (weight_at low high) c.args.count (words_left c.args.words)) c.loop-test.true c.in_err-weight.ensures.value c.loop.invariant in
    rw (p.1, p.2) (rw (low_kept, high_kept) at failed)

pub loop-preserved : goal.loop-preserved
loop-preserved c =
    let low = to_z w128 (of_z w128 c.args.low) in
    let high = to_z w128 (of_z w128 c.args.high) in
    rw c.in_ok-push.ensures.items (repeat_more (weight_at low high) c.loop.weights.items c.args.count c.loop.counter
    (words_left c.loop.rest) c.in_ok-weight.weight (words_left c.in_ok-weight.after)
    (repeat_at (weight_at low high) c.args.count (words_left c.args.words)) c.loop-test.true c.in_ok-weight.ensures.value
    c.loop.invariant)

pub returns : goal.returns
unfolding weights_at
returns c =
    let low = to_z w128 (of_z w128 c.args.low) in
    let high = to_z w128 (of_z w128 c.args.high) in
    let low_kept : low ≡ c.args.low = grind (arith, ints, c.ranges.low) in
    let high_kept : high ≡ c.args.high = grind (arith, ints, c.ranges.high) in
    let done = repeat_done (weight_at low high) c.loop.weights.items c.args.count c.loop.counter (words_left c.loop.rest)
    (repeat_at (weight_at low high) c.args.count (words_left c.args.words)) c.loop-test.false c.loop.invariant in
    rw (low_kept, high_kept) at done
