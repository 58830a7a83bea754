-- The run along an independent set takes all of it, so the table links all its members; the graph turned round belongs to it.
use Rattle.mat_linked.proofs.Common.{[], ◌∙◌, length, subst, sym, ap, IfOk-weaker, AllBelow, AreDistinct, AreDistinct-rising, AreReroutes, IsLinker, grown_along, gammoid_laws, is_gammoid, set_of_vertices}
use Rattle.mat_laws.proofs.GreedyRunSets.{run_all}
use Rattle.mat_linked.proofs.gammoid.keep_paths.Goals as goal
use Rattle.mat_linked.proofs.gammoid.keep_paths.Goals.{After-into_reroutes}

-- the paths lead to the base
turned : (c : After-into_reroutes) → AreReroutes c.args.graph.now.vertices c.args.graph.now.arcs c.args.sources.now
    (set_of_vertices c.args.targets.now c.args.base.now) c.into_reroutes.result
turned c =
    let graph = c.args.graph.now in
    let sources = c.args.sources.now in
    let targets = c.args.targets.now in
    let laws = gammoid_laws graph.vertices graph.arcs sources targets c.requires.gammoid in
    let same = c.in_ok-links.ensures.set ∙ ap (grown_along (is_gammoid graph.vertices graph.arcs sources targets) []) c.as_slice.ensures.items
    ∙ run_all laws c.args.base.now c.requires.base in
    let linked = subst (λ b. IsLinker graph.vertices graph.arcs sources (set_of_vertices targets b) c.in_ok-links.links) same
    c.in_ok-links.ensures.links in
    c.into_reroutes.ensures _ _ _ _ c.requires.gammoid.graph c.requires.gammoid.sources_inside.below linked

pub link_along-requires-clause-below : goal.link_along-requires-clause-below
link_along-requires-clause-below c =
    let graph = c.args.graph.now in
    let laws = gammoid_laws graph.vertices graph.arcs c.args.sources.now c.args.targets.now c.requires.gammoid in
    subst (AllBelow (length c.args.targets.now)) (sym c.as_slice.ensures.items) (laws.sets c.args.base.now c.requires.base).below

pub link_along-requires-clause-distinct : goal.link_along-requires-clause-distinct
link_along-requires-clause-distinct c =
    subst AreDistinct (sym c.as_slice.ensures.items) (AreDistinct-rising c.args.base.now c.as_slice.ensures.rises)

pub kept_of-requires : goal.kept_of-requires
kept_of-requires c = (_, _, _, c.requires.back, turned (goal.at.kept_of-requires c).After-into_reroutes)

pub returns : goal.returns
returns c =
    let reroutes = turned (goal.at.returns c).After-into_reroutes in
    IfOk-weaker c.kept_of.result _ _ (λ kept told. told _ _ _ _ c.requires.back reroutes) c.kept_of.ensures
