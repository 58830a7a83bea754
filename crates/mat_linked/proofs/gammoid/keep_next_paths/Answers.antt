-- First the loop over the vertices of the base that are not in the next set takes their paths away, then that over the new vertices adds a path
-- for each; in between the paths end at the common vertices.
use Rattle.mat_linked.proofs.Common.{◌≡◌, refl, arith, subst, sym, ◌∙◌, IfOk-weaker, IsLinkedTo, AreReroutes, intersection, minus, IsRising-intersection, intersection-right, set_of_vertices}
use Rattle.mat_linked.proofs.GrownSets.{new_beside_common}
use Rattle.mat_linked.proofs.FewerPaths.{vertex_is_end, AreFewerPaths-all, AreFewerPaths-more, AreFewerPaths-none}
use Rattle.mat_linked.proofs.FewerPaths as fewer
use Rattle.mat_linked.proofs.MorePaths.{below, vertex_is_new, AreMorePaths-all, AreMorePaths-more, AreMorePaths-none}
use Rattle.mat_linked.proofs.gammoid.keep_next_paths.Goals as goal
use Rattle.mat_linked.proofs.gammoid.keep_next_paths.Goals.{After-as_slice-x-items, After-into_reroutes}

-- the vertices that get a path are those of the next set that the common ones are not
new_are : (c : After-as_slice-x-items)
    → c.as_slice-x-items.result.now ≡ minus c.args.next.now (intersection c.args.base.now c.args.next.now)
new_are c =
    c.as_slice-x-items.ensures.items ∙ c.in_ok-more.ensures.members ∙ new_beside_common c.args.base.now c.args.next.now c.in_ok-more.ensures.rises

-- at the end the paths lead to the next set
turned : (c : After-into_reroutes) → AreReroutes c.args.graph.now.vertices c.args.graph.now.arcs c.args.sources.now
    (set_of_vertices c.args.targets.now c.args.next.now) c.into_reroutes.result
turned c =
    let base = c.args.base.now in
    let next = c.args.next.now in
    let linked = AreMorePaths-all _ _ _ _ c.requires.gammoid _ next _ (intersection-right base next) c.requires.next
    (IsRising-intersection base next c.in_ok-more.ensures.other_rises)
    (c.as_slice-x-items.ensures.items ∙ c.in_ok-more.ensures.members ∙ new_beside_common base next c.in_ok-more.ensures.rises) c.loop-x.x-index
    c.loop-x.linker (omega (arith, c.loop-x-test.false)) c.loop-x.invariant in
    c.into_reroutes.ensures _ _ _ _ c.requires.gammoid.graph c.requires.gammoid.sources_inside.below linked

pub loop-y-init : goal.loop-y-init
loop-y-init c =
    let graph = c.args.graph.now in
    AreFewerPaths-none graph.vertices graph.arcs c.args.sources.now c.args.targets.now c.requires.gammoid c.args.base.now c.args.next.now
    c.as_slice-y-items.result.now c.requires.base (c.as_slice-y-items.ensures.items ∙ c.in_ok-gone.ensures.members) c.in_ok-links.links
    (subst (λ n. IsLinkedTo n graph.arcs c.args.sources.now (set_of_vertices c.args.targets.now c.args.base.now) c.in_ok-links.links)
    c.vertices.ensures.count (c.in_ok-links.ensures graph.arcs c.args.sources.now (set_of_vertices c.args.targets.now c.args.base.now)
    (subst (λ n. AreReroutes n graph.arcs c.args.sources.now (set_of_vertices c.args.targets.now c.args.base.now) c.args.kept.now.reroutes)
    (sym c.vertices.ensures.count) c.requires.kept.reroutes)))

pub links-requires : goal.links-requires
links-requires c =
    let graph = c.args.graph.now in (
      graph.arcs,
      c.args.sources.now,
      set_of_vertices c.args.targets.now c.args.base.now,
      subst (λ n. AreReroutes n graph.arcs c.args.sources.now (set_of_vertices c.args.targets.now c.args.base.now) c.args.kept.now.reroutes)
          (sym c.vertices.ensures.count) c.requires.kept.reroutes,
    )

pub bounds-targets-y : goal.bounds-targets-y
bounds-targets-y c =
    fewer.below _ _ _ _ c.requires.gammoid _ _ _ c.requires.base (c.as_slice-y-items.ensures.items ∙ c.in_ok-gone.ensures.members)
    c.loop-y.y-index _ c.loop-y-test.true refl

pub unlink-requires : goal.unlink-requires
unlink-requires c =
    let end = vertex_is_end _ _ _ _ c.requires.gammoid _ _ _ c.requires.base (c.as_slice-y-items.ensures.items ∙ c.in_ok-gone.ensures.members)
    c.loop-y.y-index _ c.loop-y-test.true refl in
    (_, _, _, _, end, c.loop-y.invariant)

pub loop-y-preserved : goal.loop-y-preserved
loop-y-preserved c =
    let is = c.as_slice-y-items.ensures.items ∙ c.in_ok-gone.ensures.members in
    let i = c.loop-y.y-index in
    let end = vertex_is_end _ _ _ _ c.requires.gammoid _ _ _ c.requires.base is i _ c.loop-y-test.true refl in
    AreFewerPaths-more _ _ _ _ c.requires.gammoid _ _ _ c.requires.base is i _ c.loop-y-test.true refl c.unlink.new.self
    (c.unlink.ensures _ _ _ _ c.loop-y.invariant end)

pub loop-x-init : goal.loop-x-init
loop-x-init c =
    let graph = c.args.graph.now in
    let base = c.args.base.now in
    let next = c.args.next.now in
    let linked = AreFewerPaths-all graph.vertices graph.arcs c.args.sources.now c.args.targets.now c.requires.gammoid base next _ c.requires.base
    (c.as_slice-y-items.ensures.items ∙ c.in_ok-gone.ensures.members) c.loop-y.y-index c.loop-y.links (omega (arith, c.loop-y-test.false))
    c.loop-y.invariant in
    AreMorePaths-none _ _ _ _ c.requires.gammoid _ next _ (intersection-right base next) c.requires.next
    (IsRising-intersection base next c.in_ok-more.ensures.other_rises) (new_are (goal.at.loop-x-init c).After-as_slice-x-items) c.in_ok-linker.linker
    ((rw c.vertices-2.ensures.count at (c.in_ok-linker.ensures graph.arcs c.args.sources.now)) _ linked)

pub bounds-targets-x : goal.bounds-targets-x
bounds-targets-x c =
    let base = c.args.base.now in
    let next = c.args.next.now in
    below _ _ _ _ c.requires.gammoid _ next _ (intersection-right base next) c.requires.next
    (IsRising-intersection base next c.in_ok-more.ensures.other_rises) (new_are (goal.at.bounds-targets-x c).After-as_slice-x-items)
    c.loop-x.x-index _ c.loop-x-test.true refl

pub link-requires-clause-paths : goal.link-requires-clause-paths
link-requires-clause-paths c = (_, c.loop-x.invariant)

pub loop-x-preserved : goal.loop-x-preserved
loop-x-preserved c =
    let base = c.args.base.now in
    let next = c.args.next.now in
    let inside = intersection-right base next in
    let rises = IsRising-intersection base next c.in_ok-more.ensures.other_rises in
    let is = new_are (goal.at.loop-x-preserved c).After-as_slice-x-items in
    let i = c.loop-x.x-index in
    let new = vertex_is_new _ _ _ _ c.requires.gammoid _ next _ inside c.requires.next rises is i _ c.loop-x-test.true refl in
    let told = c.in_ok-link.ensures.answer _ c.loop-x.invariant in
    AreMorePaths-more _ _ _ _ c.requires.gammoid _ next _ inside c.requires.next rises is i _ c.loop-x-test.true refl c.in_ok-link.field-0
    c.link.new.self (c.in_ok-link.ensures.ends _ c.loop-x.invariant) (λ e. (told.0 e).1, λ p. told.1 (new, p))

pub of_table-requires : goal.of_table-requires
of_table-requires c =
    let graph = c.args.graph.now in
    let sources = c.args.sources.now in
    let targets = c.args.targets.now in
    let base = c.args.base.now in
    let next = c.args.next.now in
    let linked = AreFewerPaths-all graph.vertices graph.arcs sources targets c.requires.gammoid base next c.as_slice-y-items.result.now c.requires.base
    (c.as_slice-y-items.ensures.items ∙ c.in_ok-gone.ensures.members) c.loop-y.y-index c.loop-y.links (omega (arith, c.loop-y-test.false))
    c.loop-y.invariant in (
      graph.arcs,
      sources,
      set_of_vertices targets (intersection base next),
      subst (λ n. IsLinkedTo n graph.arcs sources (set_of_vertices targets (intersection base next)) c.loop-y.links) (sym c.vertices-2.ensures.count) linked,
    )

pub kept_of-requires : goal.kept_of-requires
kept_of-requires c = (_, _, _, c.requires.back, turned (goal.at.kept_of-requires c).After-into_reroutes)

pub returns : goal.returns
returns c =
    let reroutes = turned (goal.at.returns c).After-into_reroutes in
    IfOk-weaker c.kept_of.result _ _ (λ kept told. told _ _ _ _ c.requires.back reroutes) c.kept_of.ensures
