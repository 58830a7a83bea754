use Rattle.mat_minors.proofs.Common.{◌≡◌, ◌++◌, [], reverse, subst, sym, ap, ◌∙◌, IfOk-weaker, AllBelow, AreDistinct, minus, all_below, grown_along, is_dual}
use Rattle.mat_minors.proofs.GreedyReversed.{dual_greedy_of}
use Rattle.mat_minors.proofs.RunOrders.{turned_below, turned_distinct}
use Rattle.mat_minors.proofs.dual.DualMatroid.run.Goals as goal

pub run-requires-clause-below : goal.run-requires-clause-below
run-requires-clause-below g c =
    let items = c.deref.ensures.value ∙ c.in_ok-items.ensures
    ∙ ap (λ n. minus (all_below n) c.in_ok-all.all ++ reverse c.args.order.now) c.size.ensures in
    subst (AllBelow (g.M.Matroid.ground_size c.args.self.now.inner)) (sym items)
    (turned_below _ c.in_ok-all.all c.args.order.now c.requires.below)

pub run-requires-clause-distinct : goal.run-requires-clause-distinct
run-requires-clause-distinct g c =
    subst AreDistinct (sym (c.deref.ensures.value ∙ c.in_ok-items.ensures))
    (turned_distinct _ c.in_ok-all.all c.args.order.now c.in_ok-all.ensures.members c.requires.distinct)

pub returns : goal.returns
returns g c =
    let self = c.args.self.now in
    let p = g.M.Matroid.indep self.inner in
    let all = c.in_ok-all.all in
    let items = c.deref.ensures.value ∙ c.in_ok-items.ensures ∙ ap (λ n. minus (all_below n) all ++ reverse c.args.order.now) c.size.ensures in
    let whole = dual_greedy_of c.lawful.ensures c.args.order.now all c.requires.distinct c.requires.below c.in_ok-all.ensures.members in
    IfOk-weaker c.minus.result (λ s. s ≡ minus all c.in_ok-base.base)
    (λ s. s ≡ grown_along (is_dual (g.M.Matroid.ground_size self.inner) p) [] c.args.order.now)
    (λ s told. told ∙ ap (minus all) (c.in_ok-base.ensures ∙ ap (grown_along p []) items) ∙ sym whole) c.minus.ensures.members
