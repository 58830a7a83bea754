-- The weight of the sets around the head of an arc, its cost and what is left of it are small, so the sum and the difference fit; by the cuts they are
-- the weight of the sets that hold both ends.
use Rattle.mat_arbor.proofs.Common.{◌∙◌, ◌<◌, length, pos, arith, ints, get_or_default, ends_of, cost_at, held_weight}
use Rattle.mat_arbor.proofs.Sizes.{AreArcWeights, AreHeldWeights-more, arc_weights}
use Rattle.mat_arbor.proofs.held.held_weights.Goals as goal
use Rattle.mat_arbor.proofs.held.held_weights.Goals.{After-index}

at_arc : (c : After-index) → AreArcWeights c.index.result.now (cost_at c.args.costs.now c.loop-a.a) (cost_at c.args.left.now c.loop-a.a)
    (held_weight (ends_of c.args.arcs.now) c.args.cuts.now c.loop-a.a)
at_arc c =
    let arcs = c.args.arcs.now in
    let a = c.loop-a.a in
    let head = (ends_of arcs a).1 in
    let around = c.in_ok-around.around.items in
    let l : a < length arcs = c.loop-a-test.true in
    let inside : head < length around = (let long = c.in_ok-around.ensures.long in let vertex = c.requires.graph.second a l in omega arith) in
    let read = c.index.ensures ∙ get_or_default around head c.index.result.now (pos 0) inside
    ∙ c.in_ok-around.ensures.sums head (c.requires.graph.second a l) in
    arc_weights c.args.vertices (ends_of arcs) c.args.cuts.now c.requires.few c.requires.cuts c.requires.positive a c.index.result.now
    (cost_at c.args.costs.now a) (cost_at c.args.left.now a) read (c.requires.range a l) (c.requires.left_is a l)

pub held_weight-requires-clause-around : goal.held_weight-requires-clause-around
held_weight-requires-clause-around c =
    let at = at_arc (goal.at.held_weight-requires-clause-around c).After-index in (omega (arith, ints), omega (arith, ints))

pub held_weight-requires-clause-left : goal.held_weight-requires-clause-left
held_weight-requires-clause-left c =
    let at = at_arc (goal.at.held_weight-requires-clause-left c).After-index in (omega (arith, ints), omega (arith, ints))

pub held_weight-requires-clause-low : goal.held_weight-requires-clause-low
held_weight-requires-clause-low c = let at = at_arc (goal.at.held_weight-requires-clause-low c).After-index in omega (arith, ints)

pub loop-a-preserved : goal.loop-a-preserved
loop-a-preserved c =
    let at = at_arc (goal.at.loop-a-preserved c).After-index in
    let given = c.held_weight.ensures in
    AreHeldWeights-more c.loop-a.a (ends_of c.args.arcs.now) c.args.cuts.now c.loop-a.held.items c.push.new.self.items c.held_weight.result
    c.in_ok-push.ensures.items (omega (arith, ints)) c.loop-a.invariant
