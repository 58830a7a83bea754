use Rattle.mat_laws.proofs.Common.{[], subst, sym, ap, ◌∙◌, AllBelow, AreDistinct, IsSubset, union, grown_along, IsMaximal}
use Rattle.std.proofs.lemmas.Result.{IfOk-weaker}
use Rattle.mat_laws.proofs.Independent.{rising, below}
use Rattle.mat_laws.proofs.GreedyRunSets.{run_maximal_from, run_holds, order_below, order_distinct}
use Rattle.mat_laws.proofs.matroid.Matroid.grown_base.Goals as goal

pub run-requires-clause-below : goal.run-requires-clause-below
run-requires-clause-below g c =
    subst (AllBelow (g.Self.Matroid.ground_size c.args.self.now)) (sym (c.deref.ensures.value ∙ c.in_ok-order.ensures))
    (order_below _ c.args.from.now c.args.within.now (below c.lawful.ensures c.args.from.now c.requires.start) c.requires.below)

pub run-requires-clause-distinct : goal.run-requires-clause-distinct
run-requires-clause-distinct g c =
    subst AreDistinct (sym (c.deref.ensures.value ∙ c.in_ok-order.ensures))
    (order_distinct c.args.from.now c.args.within.now (rising c.lawful.ensures c.args.from.now c.requires.start) c.rises.ensures)

pub returns-clause-maximal : goal.returns-clause-maximal
returns-clause-maximal g c =
    let p = g.Self.Matroid.indep c.args.self.now in
    IfOk-weaker _ _ _ (λ set told. subst (IsMaximal p (union c.args.from.now c.args.within.now))
    (sym (told ∙ ap (grown_along p []) (c.deref.ensures.value ∙ c.in_ok-order.ensures)))
    (run_maximal_from c.lawful.ensures c.args.from.now c.args.within.now c.requires.start)) c.run.ensures

pub returns-clause-holds : goal.returns-clause-holds
returns-clause-holds g c =
    let p = g.Self.Matroid.indep c.args.self.now in
    IfOk-weaker _ _ _ (λ set told. subst (IsSubset c.args.from.now)
    (sym (told ∙ ap (grown_along p []) (c.deref.ensures.value ∙ c.in_ok-order.ensures)))
    (run_holds c.lawful.ensures c.args.from.now c.args.within.now c.requires.start)) c.run.ensures
