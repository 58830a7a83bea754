-- The edges, colours and weights so far, put side by side, are what is read of the lines so far; a fault of a line is the fault of all.
use Rattle.mat_desc.proofs.Common.{◌≡◌, ◌++◌, ◌∷◌, [], length, arith, err_from_is_err_and, length_push, repeat_at, lines_left, coloured_edge_at, naming, repeat_more, repeat_done, repeat_refused}
use Rattle.std.specs.List.{zip}
use Rattle.mat_desc.proofs.Columns.{zip-push_two}
use Rattle.mat_desc.proofs.read.items.coloured_edge_lines.Goals as goal

pub returns-in_err-edge-clause-value : goal.returns-in_err-edge-clause-value
returns-in_err-edge-clause-value c =
    let reader = coloured_edge_at (naming c.args.names) c.args.vertices c.args.colours in
    let p = err_from_is_err_and c.from_residual.result c.from_residual.ensures.1 in
    rw (p.1, p.2) (repeat_refused reader c.in_err-edge.field-0.0
    (zip c.loop.edges.items (zip c.loop.colour_of.items c.loop.weights.items)) c.args.many c.loop.counter (lines_left c.loop.rest)
    (repeat_at reader c.args.many (lines_left c.args.lines)) c.loop-test.true
    c.in_err-edge.ensures c.loop.invariant.0)

pub loop-preserved : goal.loop-preserved
loop-preserved c =
    let reader = coloured_edge_at (naming c.args.names) c.args.vertices c.args.colours in
    let weight = c.in_ok-edge.edge.weight in
    let one : length c.loop.colour_of.items ≡ length c.loop.edges.items = c.loop.invariant.1 in
    let two : length c.loop.weights.items ≡ length c.loop.edges.items = c.loop.invariant.2 in
    let front : zip (c.loop.edges.items ++ c.in_ok-edge.edge.ends ∷ [])
    (zip (c.loop.colour_of.items ++ c.in_ok-edge.edge.colour ∷ []) (c.loop.weights.items ++ weight ∷ [])) ≡ zip c.loop.edges.items
    (zip c.loop.colour_of.items c.loop.weights.items) ++ (c.in_ok-edge.edge.ends, (c.in_ok-edge.edge.colour, weight)) ∷ [] =
    zip-push_two c.loop.edges.items c.loop.colour_of.items c.loop.weights.items c.in_ok-edge.edge.ends c.in_ok-edge.edge.colour weight one two in (
      rw (c.in_ok-push.ensures.items, c.in_ok-push-2.ensures.items, c.in_ok-push-3.ensures.items, front)
          (repeat_more reader
          (zip c.loop.edges.items (zip c.loop.colour_of.items c.loop.weights.items)) c.args.many c.loop.counter (lines_left c.loop.rest)
          (c.in_ok-edge.edge.ends, (c.in_ok-edge.edge.colour, weight)) (lines_left c.in_ok-edge.after)
          (repeat_at reader c.args.many (lines_left c.args.lines)) c.loop-test.true
          c.in_ok-edge.ensures c.loop.invariant.0),
      rw (c.in_ok-push.ensures.items, c.in_ok-push-2.ensures.items, length_push, length_push) (omega (arith, one)),
      rw (c.in_ok-push.ensures.items, c.in_ok-push-3.ensures.items, length_push, length_push) (omega (arith, two)),
    )

pub returns-clause-value : goal.returns-clause-value
returns-clause-value c =
    let reader = coloured_edge_at (naming c.args.names) c.args.vertices c.args.colours in
    rw (c.new.ensures, c.new-2.ensures) (repeat_done reader
    (zip c.loop.edges.items (zip c.loop.colour_of.items c.loop.weights.items)) c.args.many c.loop.counter (lines_left c.loop.rest)
    (repeat_at reader c.args.many (lines_left c.args.lines)) c.loop-test.false c.loop.invariant.0)
