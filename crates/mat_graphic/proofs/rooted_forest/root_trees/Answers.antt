use Rattle.mat_graphic.proofs.Common.{sym, subst, length, IfOk-weaker, AllBelow, IsRising, ends_of, IsRootedForest}
use Rattle.mat_graphic.proofs.TrailScans.{ends_below}
use Rattle.mat_graphic.proofs.rooted_forest.root_trees.Goals as goal

pub explore_all-requires-clause-firsts : goal.explore_all-requires-clause-firsts
explore_all-requires-clause-firsts c =
    let below = subst (AllBelow (length c.args.edges.now)) (sym c.as_slice-members.ensures.items) c.requires.below in
    subst (AllBelow c.args.vertices) (sym c.deref.ensures.value)
    (ends_below (ends_of c.args.edges.now) _ _ _ c.in_ok-ends.ensures c.args.vertices (length c.args.edges.now) below
    (λ e l. (c.requires.graph.first e l, c.requires.graph.second e l))).0

pub explore_all-requires-clause-seconds : goal.explore_all-requires-clause-seconds
explore_all-requires-clause-seconds c =
    let below = subst (AllBelow (length c.args.edges.now)) (sym c.as_slice-members.ensures.items) c.requires.below in
    subst (AllBelow c.args.vertices) (sym c.deref-2.ensures.value)
    (ends_below (ends_of c.args.edges.now) _ _ _ c.in_ok-ends.ensures c.args.vertices (length c.args.edges.now) below
    (λ e l. (c.requires.graph.first e l, c.requires.graph.second e l))).1

pub returns : goal.returns
returns c =
    let ends = ends_of c.args.edges.now in
    let same = c.as_slice-members.ensures.items in
    IfOk-weaker c.explore_all.result _ (λ f. IsRootedForest c.args.vertices ends c.args.set.now f)
    (λ f told. subst (λ X. IsRootedForest c.args.vertices ends X f) same
    (told ends (subst IsRising (sym same) c.as_slice-members.ensures.rises)
    (rw (c.deref.ensures.value, c.deref-2.ensures.value) c.in_ok-ends.ensures))) c.explore_all.ensures
