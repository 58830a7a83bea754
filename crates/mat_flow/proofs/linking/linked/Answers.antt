use Rattle.mat_flow.proofs.Common.{arith, subst, walk_differs, IsLinkTable}
use Rattle.mat_flow.proofs.Augmenting.{augmented}
use Rattle.mat_flow.proofs.LinkTables.{IsLinkTable-own, starts_in-most}
use Rattle.mat_flow.proofs.linking.linked.Goals as goal

pub loop-before-init : goal.loop-before-init
loop-before-init c =
    subst (λ n. IsLinkTable n c.args.graph.now.arcs c.args.sources.now c.args.targets.now c.in_ok-before.before.items) c.vertices.ensures.count
    (IsLinkTable-own c.vertices.result c.args.graph.now.arcs c.args.sources.now c.args.targets.now c.in_ok-before.before.items
    (record { long = c.in_ok-before.ensures.long; own = c.in_ok-before.ensures.own }))

pub shift_along-requires-clause-differ : goal.shift_along-requires-clause-differ
shift_along-requires-clause-differ c =
    walk_differs _ _ _ _ c.in-Walk.walk.items c.deref-in-Walk.result.now c.deref-in-Walk.ensures.value (rw c.in-Walk.is at c.in_ok-walk.ensures)

pub loop-before-smaller : goal.loop-before-smaller
loop-before-smaller c =
    let next = augmented c.args.graph.now.vertices c.args.graph.now.arcs c.args.sources.now c.args.targets.now c.loop-before.before.items
    c.deref.result.now c.shift_along.new.table.items c.in-Walk.walk.items c.deref-in-Walk.result.now c.deref.ensures.value
    c.deref-in-Walk.ensures.value c.loop-before.invariant (rw c.in-Walk.is at c.in_ok-walk.ensures) c.shift_along.ensures in
    omega (arith, next.1, starts_in-most c.shift_along.new.table.items, c.shift_along.ensures.long)

pub loop-before-preserved : goal.loop-before-preserved
loop-before-preserved c =
    (augmented c.args.graph.now.vertices c.args.graph.now.arcs c.args.sources.now c.args.targets.now c.loop-before.before.items
    c.deref.result.now c.shift_along.new.table.items c.in-Walk.walk.items c.deref-in-Walk.result.now c.deref.ensures.value
    c.deref-in-Walk.ensures.value c.loop-before.invariant (rw c.in-Walk.is at c.in_ok-walk.ensures) c.shift_along.ensures).0
