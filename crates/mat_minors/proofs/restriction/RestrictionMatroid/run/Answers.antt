use Rattle.mat_minors.proofs.Common.{◌≡◌, [], subst, sym, ap, ◌∙◌, IfOk-weaker, is_member, AllBelow, AreDistinct, AreDistinct-filter, AllBelow-filter, grown_along, is_restricted, restricted_laws}
use Rattle.mat_minors.proofs.MinorRuns.{restricted_along}
use Rattle.mat_minors.proofs.restriction.RestrictionMatroid.run.Goals as goal

pub run-requires-clause-below : goal.run-requires-clause-below
run-requires-clause-below g c =
    subst (AllBelow (g.M.Matroid.ground_size c.args.self.now.inner)) (sym (c.deref.ensures.value ∙ c.in_ok-items.ensures))
    (AllBelow-filter _ (λ x. is_member x c.args.self.now.kept) c.args.order.now c.requires.below)

pub run-requires-clause-distinct : goal.run-requires-clause-distinct
run-requires-clause-distinct g c =
    subst AreDistinct (sym (c.deref.ensures.value ∙ c.in_ok-items.ensures))
    (AreDistinct-filter (λ x. is_member x c.args.self.now.kept) c.args.order.now c.requires.distinct)

pub returns : goal.returns
returns g c =
    let self = c.args.self.now in
    let p = g.M.Matroid.indep self.inner in
    let laws = g.met.M.Matroid.laws self.inner c.requires.sound.0 in
    let empty = (restricted_laws (g.M.Matroid.ground_size self.inner) p self.kept laws).empty in
    let whole = restricted_along p self.kept [] c.args.order.now empty in
    IfOk-weaker c.run.result (λ s. s ≡ grown_along p [] c.deref.result.now)
    (λ s. s ≡ grown_along (is_restricted self.kept p) [] c.args.order.now)
    (λ s told. told ∙ ap (grown_along p []) (c.deref.ensures.value ∙ c.in_ok-items.ensures) ∙ sym whole) c.run.ensures
