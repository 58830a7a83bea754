-- Each turn adds a path along a walk of the residual graph, or what the search reached is a cut of as many arcs as there are paths; at the end the
-- table is read as the paths.
use Rattle.mat_flow.proofs.Common.{◌∙◌, ap, length, subst, arith, ends_of, all_below, walk_differs, Paths, Cut, arcs_from, arcs_to, line_arcs}
use Rattle.mat_flow.proofs.ArcFlows.{cut_found, paths_found, HoldsPaths, HoldsPaths-own}
use Rattle.mat_flow.proofs.Augmenting.{augmented}
use Rattle.mat_flow.proofs.ArcPathLaws.{no_paths_told}
use Rattle.mat_flow.proofs.arc_flow.arc_paths.Goals as goal

pub loop-init : goal.loop-init
loop-init c =
    let ends = ends_of c.args.graph.now.arcs in
    subst (λ l. HoldsPaths (length l) ends c.args.live.now c.args.from c.args.to c.in_ok-before.before.items 0) (c.as_slice-arcs.ensures ∙ c.arcs.ensures.arcs)
    (HoldsPaths-own (length c.as_slice-arcs.result.now) ends c.args.live.now c.args.from c.args.to c.in_ok-before.before.items
    (record { long = c.in_ok-before.ensures.long; own = c.in_ok-before.ensures.own }))

pub shift_along-requires-clause-differ : goal.shift_along-requires-clause-differ
shift_along-requires-clause-differ c =
    walk_differs _ _ _ _ c.in-Walk.walk.items c.deref-in-Walk.result.now c.deref-in-Walk.ensures.value (rw c.in-Walk.is at c.in_ok-walk.ensures)

pub returns-in-Reached-clause-right : goal.returns-in-Reached-clause-right
returns-in-Reached-clause-right c =
    let found = rw c.in-Reached.is at c.in_ok-walk.ensures in
    cut_found c.args.graph.now.vertices c.vertices-in-Reached.result c.args.graph.now.arcs c.as_slice-arcs.result.now c.args.live.now c.args.from c.args.to
    c.args.want c.loop.counter c.loop.before.items c.deref.result.now c.deref-in-Reached.result.now c.in-Reached.reached
    c.as_slice-in-Reached.result.now c.in_ok-cut-in-Reached.cut c.vertices-in-Reached.ensures.count (c.as_slice-arcs.ensures ∙ c.arcs.ensures.arcs)
    c.deref.ensures.value c.deref-in-Reached.ensures.value c.as_slice-in-Reached.ensures.items c.arcs.ensures.graph c.as_slice.ensures.rises
    c.requires.live c.loop.invariant c.loop-test.true c.requires.from c.requires.to c.requires.differ found.0 found.1
    c.in_ok-cut-in-Reached.ensures.set c.in_ok-cut-in-Reached.ensures.members

pub returns-in-Reached-clause-cut : goal.returns-in-Reached-clause-cut
returns-in-Reached-clause-cut c =
    no_paths_told (ends_of c.args.graph.now.arcs) c.args.live.now c.args.from c.args.to c.args.want c.args.graph.now.vertices (Cut c.in_ok-cut-in-Reached.cut)
    c.as_slice.ensures.rises (returns-in-Reached-clause-right c)

pub loop-preserved : goal.loop-preserved
loop-preserved c =
    let arcs = c.args.graph.now.arcs in
    let ends = ends_of arcs in
    let live = c.args.live.now in
    let next = augmented (length arcs) (line_arcs ends (length arcs) live) (arcs_from ends live c.args.from) (arcs_to ends (length arcs) c.args.to)
    c.loop.before.items c.deref.result.now c.shift_along.new.table.items c.in-Walk.walk.items c.deref-in-Walk.result.now
    c.deref.ensures.value c.deref-in-Walk.ensures.value c.loop.invariant.table (rw c.in-Walk.is at c.in_ok-walk.ensures) c.shift_along.ensures in
    record { table = next.0; many = omega (arith, next.1, c.loop.invariant.many) }

pub returns-clause-right : goal.returns-clause-right
returns-clause-right c =
    let arcs = c.args.graph.now.arcs in
    let same = c.as_slice-arcs.ensures ∙ c.arcs.ensures.arcs in
    paths_found arcs c.args.live.now c.args.from c.args.to c.args.want c.loop.counter c.loop.before.items c.deref-2.result.now c.deref-3.result.now
    c.in_ok-after.after.items c.deref-4.result.now c.as_slice-2.result.now c.in_ok-paths.paths.items c.deref-2.ensures.value c.deref-3.ensures.value
    c.deref-4.ensures.value (c.as_slice-2.ensures.items ∙ c.in_ok-all.ensures.members ∙ ap (λ l. all_below (length l)) same)
    c.loop.invariant (omega (arith, c.loop-test.false, c.loop.auto.counter-end)) c.in_ok-after.ensures c.in_ok-paths.ensures

pub returns-clause-cut : goal.returns-clause-cut
returns-clause-cut c =
    no_paths_told (ends_of c.args.graph.now.arcs) c.args.live.now c.args.from c.args.to c.args.want c.args.graph.now.vertices
    (Paths c.in_ok-paths.paths) c.as_slice.ensures.rises (returns-clause-right c)
