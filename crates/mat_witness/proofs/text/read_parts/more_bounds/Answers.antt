use Rattle.mat_witness.proofs.Common.{◌∷◌, [], map, map-append, err_from_is_err_and, lines_left, repeat_at, with_front, repeat_more, repeat_done, repeat_refused, tree_of, bound_at, bound_part}
use Rattle.mat_witness.proofs.text.read_parts.more_bounds.Goals as goal

pub returns-in_err-bound : goal.returns-in_err-bound
returns-in_err-bound c =
    let reader = bound_at c.args.count (tree_of c.args.matroid.now) in
    let p = err_from_is_err_and c.from_residual.result c.from_residual.ensures.1 in
    rw (p.1, p.2) (repeat_refused reader c.in_err-bound.field-0.0 (map bound_part c.loop.bounds.items) c.args.many c.loop.counter
    (lines_left c.loop.rest) (with_front (map bound_part c.args.front.items) (repeat_at reader c.args.many (lines_left c.args.lines)))
    c.loop-test.true c.in_err-bound.ensures c.loop.invariant)

pub loop-preserved : goal.loop-preserved
loop-preserved c =
    let reader = bound_at c.args.count (tree_of c.args.matroid.now) in
    rw (c.in_ok-push.ensures.items, map-append bound_part c.loop.bounds.items (c.in_ok-bound.bound ∷ []))
    (repeat_more reader (map bound_part c.loop.bounds.items) c.args.many c.loop.counter (lines_left c.loop.rest)
    (bound_part c.in_ok-bound.bound) (lines_left c.in_ok-bound.after)
    (with_front (map bound_part c.args.front.items) (repeat_at reader c.args.many (lines_left c.args.lines)))
    c.loop-test.true c.in_ok-bound.ensures c.loop.invariant)

pub returns : goal.returns
returns c =
    let reader = bound_at c.args.count (tree_of c.args.matroid.now) in
    repeat_done reader (map bound_part c.loop.bounds.items) c.args.many c.loop.counter (lines_left c.loop.rest)
    (with_front (map bound_part c.args.front.items) (repeat_at reader c.args.many (lines_left c.args.lines))) c.loop-test.false c.loop.invariant
