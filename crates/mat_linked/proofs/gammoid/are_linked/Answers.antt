use Rattle.mat_linked.proofs.Common.{length, refl, arith, AllBelow-at}
use Rattle.mat_linked.proofs.LinkedRuns.{all_linked, part_not_linked, IsLinkedRun-all_so_far, IsLinkedRun-start}
use Rattle.mat_linked.proofs.gammoid.are_linked.Goals as goal

pub loop-x-init : goal.loop-x-init
loop-x-init c =
    let graph = c.args.graph.now in
    IsLinkedRun-start graph.vertices graph.arcs c.args.sources.now c.args.targets.now c.requires.gammoid c.args.elements.now _ c.in_ok-links.links refl
    (rw c.vertices.ensures.count at (c.in_ok-links.ensures graph.arcs c.args.sources.now))

pub bounds-targets-x : goal.bounds-targets-x
bounds-targets-x c = AllBelow-at (length c.args.targets.now) c.args.elements.now c.loop-x.x-index c.requires.below c.loop-x-test.true

pub link-requires-clause-paths : goal.link-requires-clause-paths
link-requires-clause-paths c = (_, c.loop-x.invariant.linked)

pub returns-then-not-branch : goal.returns-then-not-branch
returns-then-not-branch c =
    let graph = c.args.graph.now in
    let i = c.loop-x.x-index in
    let below = AllBelow-at (length c.args.targets.now) c.args.elements.now i c.requires.below c.loop-x-test.true in
    part_not_linked graph.vertices graph.arcs c.args.sources.now c.args.targets.now c.requires.gammoid c.args.elements.now c.requires.rises i
    c.loop-x-test.true c.loop-x.links below c.loop-x.invariant c.in_ok-link.field-0 (c.in_ok-link.ensures.answer _ c.loop-x.invariant.linked) c.if-not-branch.true

pub loop-x-preserved : goal.loop-x-preserved
loop-x-preserved c =
    let graph = c.args.graph.now in
    let i = c.loop-x.x-index in
    let below = AllBelow-at (length c.args.targets.now) c.args.elements.now i c.requires.below c.loop-x-test.true in
    IsLinkedRun-all_so_far graph.vertices graph.arcs c.args.sources.now c.args.targets.now c.requires.gammoid c.args.elements.now c.requires.rises i
    c.loop-x-test.true c.loop-x.links below c.loop-x.invariant c.in_ok-link.field-0 (c.in_ok-link.ensures.answer _ c.loop-x.invariant.linked) c.link.new.self
    (c.in_ok-link.ensures.ends _ c.loop-x.invariant.linked) c.if-not-branch.false

pub returns : goal.returns
returns c =
    let graph = c.args.graph.now in
    all_linked graph.vertices graph.arcs c.args.sources.now c.args.targets.now c.requires.gammoid c.args.elements.now c.loop-x.x-index c.loop-x.links
    (omega (arith, c.loop-x-test.false)) c.loop-x.invariant
