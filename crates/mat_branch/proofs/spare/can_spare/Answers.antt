use Rattle.mat_branch.proofs.Common.{◌<◌, ◌∙◌, length, ap, subst, sym, ends_of, AllBelow, below_member, IsSet-without_one}
use Rattle.mat_branch.proofs.FlowTests.{TellsSpare-cut, TellsSpare-none, TellsSpare-paths}
use Rattle.mat_branch.proofs.spare.can_spare.Goals as goal

pub get-head-requires : goal.get-head-requires
get-head-requires c = subst (λ l. c.args.a < length l) (sym c.arcs.ensures.arcs) (below_member c.requires.live c.requires.arc)

pub arc_paths-requires-clause-live : goal.arc_paths-requires-clause-live
arc_paths-requires-clause-live c =
    let count = length c.args.graph.now.arcs in
    subst (AllBelow count) (sym c.in_ok-rest.ensures.members) (IsSet-without_one count c.args.live.now c.args.a c.requires.live).below

pub returns-in-Paths : goal.returns-in-Paths
returns-in-Paths c =
    TellsSpare-paths c.args.graph.now.vertices c.args.root (ends_of c.args.graph.now.arcs) c.args.live.now c.args.m c.args.a c.in_ok-rest.rest
    c.get-head.result.1 c.in_ok-rest.ensures.members (ap (λ p. p.1) (c.get-head.ensures ∙ ap (λ l. ends_of l c.args.a) c.arcs.ensures.arcs))
    c.in-Paths.field-0.items c.requires.live.rising c.requires.entered (rw c.in-Paths.is at c.in_ok-arc_paths.ensures.right)

pub returns : goal.returns
returns c =
    TellsSpare-cut c.args.graph.now.vertices c.args.root (ends_of c.args.graph.now.arcs) c.args.live.now c.args.m c.args.a c.in_ok-rest.rest
    c.get-head.result.1 c.in_ok-rest.ensures.members (ap (λ p. p.1) (c.get-head.ensures ∙ ap (λ l. ends_of l c.args.a) c.arcs.ensures.arcs))
    c.in-Cut.field-0 (rw c.in-Cut.is at c.in_ok-arc_paths.ensures.right)

pub returns-then-m-eq0 : goal.returns-then-m-eq0
returns-then-m-eq0 c = TellsSpare-none c.args.graph.now.vertices c.args.root (ends_of c.args.graph.now.arcs) c.args.live.now c.args.m c.args.a c.if-m-eq0.true
