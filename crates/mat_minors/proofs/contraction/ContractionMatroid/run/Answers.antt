use Rattle.mat_minors.proofs.Common.{◌≡◌, [], subst, sym, ap, ◌∙◌, IfOk-weaker, AllBelow, AreDistinct, minus, grown_along, is_contracted, contracted_laws}
use Rattle.mat_minors.proofs.MinorRuns.{contracted_greedy}
use Rattle.mat_minors.proofs.RunOrders.{after_below, after_distinct}
use Rattle.mat_minors.proofs.contraction.ContractionMatroid.run.Goals as goal

pub run-requires-clause-below : goal.run-requires-clause-below
run-requires-clause-below g c =
    subst (AllBelow (g.M.Matroid.ground_size c.args.self.now.inner)) (sym (c.deref.ensures.value ∙ c.in_ok-items.ensures))
    (after_below _ c.args.self.now.away c.args.order.now c.requires.sound.1.set.below c.requires.below)

pub run-requires-clause-distinct : goal.run-requires-clause-distinct
run-requires-clause-distinct g c =
    subst AreDistinct (sym (c.deref.ensures.value ∙ c.in_ok-items.ensures))
    (after_distinct c.args.self.now.away c.args.order.now c.requires.sound.1.set.rising c.requires.distinct)

pub returns : goal.returns
returns g c =
    let self = c.args.self.now in
    let laws = g.met.M.Matroid.laws self.inner c.requires.sound.0 in
    let empty =
    (contracted_laws (g.M.Matroid.ground_size self.inner) (g.M.Matroid.indep self.inner) self.away c.requires.sound.1.set.rising laws).empty in
    let run = c.in_ok-all.ensures ∙ ap (grown_along (g.M.Matroid.indep self.inner) []) (c.deref.ensures.value ∙ c.in_ok-items.ensures) in
    let whole = contracted_greedy laws self.away c.args.order.now c.requires.sound.1.set c.requires.below empty in
    IfOk-weaker c.minus.result (λ s. s ≡ minus c.in_ok-all.all self.away)
    (λ s. s ≡ grown_along (is_contracted (g.M.Matroid.ground_size self.inner) self.away (g.M.Matroid.indep self.inner)) [] c.args.order.now)
    (λ s told. told ∙ ap (λ all. minus all self.away) run ∙ sym whole) c.minus.ensures.members
