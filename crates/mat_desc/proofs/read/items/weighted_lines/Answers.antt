-- The pairs and weights so far, put side by side, are what is read of the lines so far; a fault of a line is the fault of all.
use Rattle.mat_desc.proofs.Common.{◌≡◌, ◌++◌, ◌∷◌, [], length, arith, err_from_is_err_and, length_push, repeat_at, lines_left, weighted_at, naming, repeat_more, repeat_done, repeat_refused}
use Rattle.std.specs.List.{zip}
use Rattle.mat_desc.proofs.Columns.{zip-push}
use Rattle.mat_desc.proofs.read.items.weighted_lines.Goals as goal

pub returns-in_err-item-clause-value : goal.returns-in_err-item-clause-value
returns-in_err-item-clause-value c =
    let reader = weighted_at (naming c.args.names) c.args.key.now c.args.first_bound c.args.second_bound in
    let p = err_from_is_err_and c.from_residual.result c.from_residual.ensures.1 in
    rw (p.1, p.2) (repeat_refused reader c.in_err-item.field-0.0
    (zip c.loop.pairs.items c.loop.weights.items) c.args.many c.loop.counter (lines_left c.loop.rest)
    (repeat_at reader c.args.many (lines_left c.args.lines)) c.loop-test.true
    c.in_err-item.ensures c.loop.invariant.0)

pub loop-preserved : goal.loop-preserved
loop-preserved c =
    let reader = weighted_at (naming c.args.names) c.args.key.now c.args.first_bound c.args.second_bound in
    let weight = c.in_ok-item.item.weight in
    let same : length c.loop.weights.items ≡ length c.loop.pairs.items = c.loop.invariant.1 in
    let front : zip (c.loop.pairs.items ++ c.in_ok-item.item.ends ∷ []) (c.loop.weights.items ++ weight ∷ []) ≡ zip c.loop.pairs.items
    c.loop.weights.items ++ (c.in_ok-item.item.ends, weight) ∷ [] =
    zip-push c.loop.pairs.items c.loop.weights.items c.in_ok-item.item.ends weight same in (
      rw (c.in_ok-push.ensures.items, c.in_ok-push-2.ensures.items, front)
          (repeat_more reader (zip c.loop.pairs.items c.loop.weights.items)
          c.args.many c.loop.counter (lines_left c.loop.rest) (c.in_ok-item.item.ends, weight) (lines_left c.in_ok-item.after)
          (repeat_at reader c.args.many (lines_left c.args.lines))
          c.loop-test.true c.in_ok-item.ensures c.loop.invariant.0),
      rw (c.in_ok-push.ensures.items, c.in_ok-push-2.ensures.items, length_push, length_push) (omega (arith, same)),
    )

pub returns-clause-value : goal.returns-clause-value
returns-clause-value c =
    let reader = weighted_at (naming c.args.names) c.args.key.now c.args.first_bound c.args.second_bound in
    rw (c.new.ensures, c.new-2.ensures) (repeat_done reader
    (zip c.loop.pairs.items c.loop.weights.items) c.args.many c.loop.counter (lines_left c.loop.rest)
    (repeat_at reader c.args.many (lines_left c.args.lines)) c.loop-test.false
    c.loop.invariant.0)
