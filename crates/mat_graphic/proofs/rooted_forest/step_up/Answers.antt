-- The later of the two places is a root or a child of an earlier one, so a step makes the later place smaller and keeps that the edges so far join the
-- two vertices to the two places; where the later one is a root, the trees are different.
use Rattle.mat_graphic.proofs.Common.{◌<◌, ◌∙◌, length, refl, arith, with_one}
use Rattle.mat_graphic.proofs.Climbing.{IsClimbing-left, IsClimbing-right, climbed_apart}
use Rattle.mat_graphic.proofs.TrailScans.{item_of}
use Rattle.mat_graphic.proofs.rooted_forest.step_up.Goals as goal

pub returns-then-before-high-clause-climbing : goal.returns-then-before-high-clause-climbing
returns-then-before-high-clause-climbing c = λ ends X from to edges t s.
    let o = c.requires.order in
    let inside : c.max-high.result < length c.args.forest.now.order.items = omega (arith, c.max-high.ensures, c.requires.first, c.requires.second) in
    let up = item_of c.args.forest.now.before.items c.max-high.result c.index-before.result.now (omega (arith, o.before_long))
    c.index-before.ensures in
    climbed_apart ends X _ _ _ _ o t from to c.args.first c.args.second c.max-high.result edges c.requires.first c.requires.second
    c.requires.apart c.max-high.ensures (up ∙ c.if-before-high.true) s

pub returns-then-first-high-clause-inside : goal.returns-then-first-high-clause-inside
returns-then-first-high-clause-inside c =
    let o = c.requires.order in
    let inside : c.max-high.result < length c.args.forest.now.order.items = omega (arith, c.max-high.ensures, c.requires.first, c.requires.second) in
    let up = item_of c.args.forest.now.before.items c.max-high.result c.index-before.result.now (omega (arith, o.before_long))
    c.index-before.ensures in
    (omega (arith, o.earlier c.max-high.result inside), c.requires.second)

pub returns-then-first-high-clause-lower : goal.returns-then-first-high-clause-lower
returns-then-first-high-clause-lower c =
    let o = c.requires.order in
    let inside : c.max-high.result < length c.args.forest.now.order.items = omega (arith, c.max-high.ensures, c.requires.first, c.requires.second) in
    let up = item_of c.args.forest.now.before.items c.max-high.result c.index-before.result.now (omega (arith, o.before_long))
    c.index-before.ensures in
    omega (arith, o.earlier c.max-high.result inside, c.max-high.ensures, c.if-before-high.false, c.if-first-high.true)

pub returns-then-first-high-clause-climbing : goal.returns-then-first-high-clause-climbing
returns-then-first-high-clause-climbing c = λ ends X from to edges t s.
    let o = c.requires.order in
    let inside : c.max-high.result < length c.args.forest.now.order.items = omega (arith, c.max-high.ensures, c.requires.first, c.requires.second) in
    let up = item_of c.args.forest.now.before.items c.max-high.result c.index-before.result.now (omega (arith, o.before_long))
    c.index-before.ensures in
    let edge = item_of c.args.forest.now.through.items c.max-high.result c.index-edge.result.now (omega (arith, o.through_long))
    c.index-edge.ensures in
    IsClimbing-left ends X _ _ _ _ o t from to c.args.first c.args.second c.max-high.result c.index-before.result.now c.index-edge.result.now
    edges (with_one edges c.index-edge.result.now) c.requires.first c.requires.second c.requires.apart c.max-high.ensures up
    c.if-before-high.false edge refl c.if-first-high.true s

pub returns-else-first-high-clause-inside : goal.returns-else-first-high-clause-inside
returns-else-first-high-clause-inside c =
    let o = c.requires.order in
    let inside : c.max-high.result < length c.args.forest.now.order.items = omega (arith, c.max-high.ensures, c.requires.first, c.requires.second) in
    let up = item_of c.args.forest.now.before.items c.max-high.result c.index-before.result.now (omega (arith, o.before_long))
    c.index-before.ensures in
    (c.requires.first, omega (arith, o.earlier c.max-high.result inside))

pub returns-else-first-high-clause-lower : goal.returns-else-first-high-clause-lower
returns-else-first-high-clause-lower c =
    let o = c.requires.order in
    let inside : c.max-high.result < length c.args.forest.now.order.items = omega (arith, c.max-high.ensures, c.requires.first, c.requires.second) in
    let up = item_of c.args.forest.now.before.items c.max-high.result c.index-before.result.now (omega (arith, o.before_long))
    c.index-before.ensures in
    omega (arith, o.earlier c.max-high.result inside, c.max-high.ensures, c.if-before-high.false, c.if-first-high.false)

pub returns-else-first-high-clause-climbing : goal.returns-else-first-high-clause-climbing
returns-else-first-high-clause-climbing c = λ ends X from to edges t s.
    let o = c.requires.order in
    let inside : c.max-high.result < length c.args.forest.now.order.items = omega (arith, c.max-high.ensures, c.requires.first, c.requires.second) in
    let up = item_of c.args.forest.now.before.items c.max-high.result c.index-before.result.now (omega (arith, o.before_long))
    c.index-before.ensures in
    let edge = item_of c.args.forest.now.through.items c.max-high.result c.index-edge.result.now (omega (arith, o.through_long))
    c.index-edge.ensures in
    IsClimbing-right ends X _ _ _ _ o t from to c.args.first c.args.second c.max-high.result c.index-before.result.now c.index-edge.result.now
    edges (with_one edges c.index-edge.result.now) c.requires.first c.requires.second c.requires.apart c.max-high.ensures up
    c.if-before-high.false edge refl c.if-first-high.false s
