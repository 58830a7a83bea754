use Rattle.mat_flow.proofs.Common.{◌+◌, length, arith, get_or, subst, sym, take, AllBelow-at, ends_of, AreLeaving}
use Rattle.mat_flow.proofs.ArcFlows.{AreLeaving-more, AreLeaving-none}
use Rattle.mat_flow.proofs.arc_flow.leaving_rows.Goals as goal

pub bounds-arcs-a : goal.bounds-arcs-a
bounds-arcs-a c = AllBelow-at (length c.args.arcs.now) c.args.live.now c.loop-a.a-index c.requires.live c.loop-a-test.true

pub insert-requires : goal.insert-requires
insert-requires c =
    let a = get_or c.args.live.now c.loop-a.a-index 0 in
    let below = AllBelow-at (length c.args.arcs.now) c.args.live.now c.loop-a.a-index c.requires.live c.loop-a-test.true in
    omega (arith, c.requires.graph.first a below, c.loop-a.invariant.count)

pub loop-a-init : goal.loop-a-init
loop-a-init c = AreLeaving-none c.args.vertices (ends_of c.args.arcs.now) c.in_ok-rows.rows c.in_ok-rows.ensures

pub loop-a-preserved : goal.loop-a-preserved
loop-a-preserved c =
    let live = c.args.live.now in
    let i = c.loop-a.a-index in
    let below = AllBelow-at (length c.args.arcs.now) live i c.requires.live c.loop-a-test.true in
    subst (AreLeaving c.args.vertices (ends_of c.args.arcs.now) (take (i + 1) live)) (sym c.in_ok-insert.ensures.ok)
    (AreLeaving-more c.args.vertices (ends_of c.args.arcs.now) live i c.loop-a.rows c.loop-a-test.true
    (c.requires.graph.first (get_or live i 0) below) c.loop-a.invariant)
