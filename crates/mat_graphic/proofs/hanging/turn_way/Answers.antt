-- The way from a vertex to its root is turned round: each vertex on it is put below the one that came before, up to the root.
use Rattle.mat_graphic.proofs.Common.{◌<◌, length, get_or, sym, subst, arith, AllBelow-at}
use Rattle.mat_graphic.proofs.HungTrees.{IsTurned-end, IsTurning, IsTurning-more}
use Rattle.mat_graphic.proofs.TrailScans.{item_of}
use Rattle.mat_graphic.proofs.hanging.turn_way.Goals as goal

pub visit-requires-clause-below : goal.visit-requires-clause-below
visit-requires-clause-below c =
    let forest = c.args.forest.now in
    let at = c.loop-before.at in
    let h = c.loop-before.invariant in
    let here = item_of forest.order.items at c.index-vertex.result.now h.inside c.index-vertex.ensures in
    let below = AllBelow-at (length forest.place.items) forest.order.items at c.requires.order.below h.inside in
    let long = h.long in
    let same = c.requires.vertices in
    omega arith

pub returns-then-before-at : goal.returns-then-before-at
returns-then-before-at c =
    let forest = c.args.forest.now in
    let at = c.loop-before.at in
    let h = c.loop-before.invariant in
    let visited = c.in_ok-visit.ensures in
    IsTurned-end forest c.args.edge c.args.first c.args.second c.args.new.now at c.loop-before.through c.loop-before.below c.loop-before.new
    c.visit.new.forest h c.index-vertex.result.now c.place_of-place.result
    (sym (item_of forest.order.items at c.index-vertex.result.now h.inside c.index-vertex.ensures)) c.place_of-place.ensures.inside
    c.place_of-place.ensures.here visited.long visited.order visited.found visited.front visited.tree c.args.root

pub loop-before-preserved : goal.loop-before-preserved
loop-before-preserved c =
    let forest = c.args.forest.now in
    let edge = c.args.edge in
    let first = c.args.first in
    let second = c.args.second in
    let old = c.args.new.now in
    let at = c.loop-before.at in
    let h = c.loop-before.invariant in
    let o = c.requires.order in
    let vertex = c.index-vertex.result.now in
    let new = c.visit.new.forest in
    let visited = c.in_ok-visit.ensures in
    let small = h.inside in
    let low = o.earlier at small in
    let up = item_of forest.before.items at c.index-before.result.now (let same = o.before_long in omega arith) c.index-before.ensures in
    let through = item_of forest.through.items at c.index-through.result.now (let same = o.through_long in omega arith) c.index-through.ensures in
    let down : get_or forest.before.items at 0 < at = omega (arith, low, up, c.if-before-at.false) in
    subst (λ t. IsTurning forest edge first second old c.index-before.result.now t vertex new) through
    (subst (λ k. IsTurning forest edge first second old k (get_or forest.through.items at 0) vertex new) up
    (IsTurning-more forest edge first second old at c.loop-before.through c.loop-before.below c.loop-before.new new h vertex c.place_of-place.result
    (sym (item_of forest.order.items at vertex small c.index-vertex.ensures)) c.place_of-place.ensures.inside c.place_of-place.ensures.here
    visited.long visited.order visited.found visited.front visited.tree down))
