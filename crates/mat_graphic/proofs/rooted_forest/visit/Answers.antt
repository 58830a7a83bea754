use Rattle.mat_graphic.proofs.Common.{◌∙◌, sym}
use Rattle.mat_graphic.proofs.TrailTables.{found_before, not_found, found_now, only_now, IsOrder-last, IsTree-more}
use Rattle.mat_graphic.proofs.rooted_forest.visit.Goals as goal

pub returns-then-is_some-clause-found : goal.returns-then-is_some-clause-found
returns-then-is_some-clause-found c = found_before _ _ _ _ c.requires.order c.args.vertex c.index.result.now c.requires.below c.index.ensures
    (sym c.is_some.ensures ∙ c.if-is_some.true)

pub returns-clause-order : goal.returns-clause-order
returns-clause-order c =
    let fresh = not_found _ _ _ _ c.requires.order c.args.vertex c.index.result.now c.requires.below c.index.ensures
    (sym c.is_some.ensures ∙ c.if-is_some.false) in
    rw (c.in_ok-push.ensures.items, c.in_ok-push-2.ensures.items, c.in_ok-push-3.ensures.items)
    (IsOrder-last _ _ _ _ c.requires.order c.args.vertex c.args.edge c.args.at c.requires.below fresh c.requires.inside c.len.result
    (c.len.ensures ∙ c.args.forest.now.order.ok.0))

pub returns-clause-found : goal.returns-clause-found
returns-clause-found c = rw c.in_ok-push.ensures.items (found_now _ _ _ _ c.requires.order c.args.vertex)

pub returns-clause-tree : goal.returns-clause-tree
returns-clause-tree c = λ ends X findable t.
    let fresh = not_found _ _ _ _ c.requires.order c.args.vertex c.index.result.now c.requires.below c.index.ensures
    (sym c.is_some.ensures ∙ c.if-is_some.false) in
    rw (c.in_ok-push.ensures.items, c.in_ok-push-2.ensures.items, c.in_ok-push-3.ensures.items)
    (IsTree-more _ _ _ _ c.requires.order c.args.vertex c.args.edge c.args.at c.requires.below fresh c.requires.inside ends X findable t)

pub returns-clause-only : goal.returns-clause-only
returns-clause-only c = rw c.in_ok-push.ensures.items (λ v. only_now _ _ _ _ c.requires.order v c.args.vertex)
