-- Each edge at the vertex finds its other end, or leads to a vertex that was found before.
use Rattle.mat_graphic.proofs.Common.{◌<◌, suc, length, get_or, refl, sym, subst, arith, IsNextFrom, AllBelow-at, stands_at}
use Rattle.mat_graphic.proofs.TrailTables.{entry_of}
use Rattle.mat_graphic.proofs.TrailScans.{item_of, IsScanning-start, IsScanning-next, scanned_at}
use Rattle.mat_graphic.proofs.rooted_forest.scan.Goals as goal

pub index-next-requires : goal.index-next-requires
index-next-requires c =
    let order = c.args.forest.now.order.items in
    let item = item_of order c.args.at c.index-vertex.result.now c.requires.inside c.index-vertex.ensures in
    let below = AllBelow-at (length c.args.forest.now.place.items) order c.args.at c.requires.order.below c.requires.inside in
    omega (arith, c.requires.vertices, c.args.places.now.first.ok.0)

pub loop-next-init : goal.loop-next-init
loop-next-init c =
    let order = c.args.forest.now.order.items in
    let v = c.index-vertex.result.now in
    let item = item_of order c.args.at v c.requires.inside c.index-vertex.ensures in
    let below = AllBelow-at (length c.args.forest.now.place.items) order c.args.at c.requires.order.below c.requires.inside in
    let small : v < length c.args.places.now.first.items = omega (arith, c.requires.vertices) in
    IsScanning-start _ _ _ _ _ _ v _ c.index-next.result.now _
    (subst (IsNextFrom (stands_at c.args.tails.now v) 0)
    (entry_of c.args.places.now.first.items v c.index-next.result.now small c.index-next.ensures) (c.requires.places.first_is v small))
    refl c.requires.order

pub visit-requires-clause-below : goal.visit-requires-clause-below
visit-requires-clause-below c =
    let s = rw c.in-Some.is at c.loop-next.invariant in
    let inside = (scanned_at _ _ _ _ _ _ _ _ _ _ _ _ _ s).0 in
    let below = AllBelow-at (length c.args.forest.now.place.items) c.args.heads.now c.in-Some.i c.requires.below (omega (arith, c.requires.heads)) in
    omega (arith, s.long)

pub loop-next-preserved : goal.loop-next-preserved
loop-next-preserved c =
    let i = c.in-Some.i in
    let s = rw c.in-Some.is at c.loop-next.invariant in
    let inside = (scanned_at _ _ _ _ _ _ _ _ _ _ _ _ _ s).0 in
    let item = item_of c.args.forest.now.order.items c.args.at c.index-vertex.result.now c.requires.inside c.index-vertex.ensures in
    let next = c.index-next-in-Some.result.now in
    let read = entry_of c.args.places.now.next.items i next (omega (arith, c.requires.places.long)) c.index-next-in-Some.ensures in
    let told = c.in_ok-visit.ensures in
    IsScanning-next _ _ _ _ _ _ _ _ _ _ _ _ _ s c.args.at next _ _ _ _ c.requires.inside (sym item)
    (subst (IsNextFrom (stands_at c.args.tails.now (get_or c.args.tails.now i 0)) (suc i)) read (c.requires.places.next_is i (omega arith) inside))
    told.long told.order told.found told.front told.tree
