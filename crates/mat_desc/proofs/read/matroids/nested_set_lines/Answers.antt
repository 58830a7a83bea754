use Rattle.mat_desc.proofs.Common.{[], ◌∷◌, ◌++◌, ap, ◌∙◌, arith, err_from_is_err_and, length_push, nested_sets_at, naming, lines_left}
use Rattle.mat_desc.proofs.NestedSets.{nested_sets_more, nested_sets_fail, nested_sets_done}
use Rattle.mat_desc.proofs.read.matroids.nested_set_lines.Goals as goal

pub returns-in_err-cap : goal.returns-in_err-cap
returns-in_err-cap c =
    let names = naming c.args.names in
    let p = err_from_is_err_and c.from_residual-in_err-cap.result c.from_residual-in_err-cap.ensures.1 in
    let failed = rw c.loop.invariant.2 at c.in_err-cap.ensures.read in
    rw (p.1, p.2) (nested_sets_fail c.in_err-cap.field-0.0 names c.args.count c.args.many c.loop.counter (lines_left c.loop.rest)
    c.loop.sets.items c.loop.caps.items (nested_sets_at names c.args.count c.args.many [] (lines_left c.args.lines)) c.loop-test.true failed
    c.loop.invariant.0)

pub loop-preserved : goal.loop-preserved
loop-preserved c =
    let names = naming c.args.names in
    let read = rw c.loop.invariant.2 at c.in_ok-cap.ensures.read in (
      rw (c.in_ok-push.ensures.items, c.in_ok-push-2.ensures.items)
          (nested_sets_more names c.args.count c.args.many c.loop.counter (lines_left c.loop.rest) c.loop.sets.items c.loop.caps.items
          c.in_ok-cap.cap c.in_ok-cap.set (lines_left c.in_ok-cap.after) (nested_sets_at names c.args.count c.args.many [] (lines_left c.args.lines))
          c.loop-test.true read c.loop.invariant.0),
      rw (c.in_ok-push.ensures.items, length_push) (omega (arith, c.loop.invariant.1)),
      rw c.in_ok-push.ensures.items (c.in_ok-cap.ensures.more ∙ ap (λ s. s ++ c.in_ok-cap.set ∷ []) c.loop.invariant.2),
      c.in_ok-cap.ensures.elements,
    )

pub returns : goal.returns
returns c =
    let names = naming c.args.names in
    rw c.new-2.ensures.items
    (nested_sets_done names c.args.count c.args.many c.loop.counter (lines_left c.loop.rest) c.loop.sets.items c.loop.caps.items
    (nested_sets_at names c.args.count c.args.many [] (lines_left c.args.lines)) c.loop-test.false c.loop.invariant.0)
