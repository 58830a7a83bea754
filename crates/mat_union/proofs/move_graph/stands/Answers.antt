use Rattle.mat_union.proofs.Common.{◌<◌, ◌≤◌, ◌∙◌, length, arith, sym}
use Rattle.mat_union.proofs.GraphSteps.{stands_at, stands_nowhere}
use Rattle.mat_union.proofs.move_graph.stands.Goals as goal

pub returns-then-contains : goal.returns-then-contains
returns-then-contains c =
    let l : c.loop-i.i < length c.args.parts.now = omega (arith, c.loop-i-test.true, c.len-i-end.ensures.count) in
    stands_at c.args.parts.now c.loop-i.i c.args.v c.get.result.now l c.get.ensures.item (sym c.if-contains.true ∙ c.contains.ensures.found)

pub returns : goal.returns
returns c =
    let l : length c.args.parts.now ≤ c.loop-i.i = omega (arith, c.loop-i-test.false, c.len-i-end.ensures.count) in
    stands_nowhere c.args.parts.now c.loop-i.i c.args.v l c.loop-i.invariant
