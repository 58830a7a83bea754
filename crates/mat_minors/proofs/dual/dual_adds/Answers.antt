-- An element outside the kept base can be added; one of the base can be added if its column has a member outside the set.
use Rattle.mat_minors.proofs.Common.{not, inl, inr, refl, sym, ap, subst, ◌∙◌, both_ways, cases_Bool, IsRising, Exchange}
use Rattle.mat_minors.proofs.DualExchanges.{kept_row-added, kept_row-exchanged, kept_row-outside}
use Rattle.mat_minors.proofs.dual.dual_adds.Goals as goal

pub returns-then-not-contains-clause-told : goal.returns-then-not-contains-clause-told
returns-then-not-contains-clause-told c =
    let kept = c.args.kept.now in
    ap (λ (e : Exchange). e.addable)
    (kept_row-outside kept.set kept.base kept.columns c.args.x kept.set refl (sym c.contains.ensures ∙ c.if-not-contains.true))

pub returns-then-not-contains-clause-rises : goal.returns-then-not-contains-clause-rises
returns-then-not-contains-clause-rises c =
    let kept = c.args.kept.now in
    subst (λ (e : Exchange). IsRising e.with)
    (kept_row-outside kept.set kept.base kept.columns c.args.x kept.set refl (sym c.contains.ensures ∙ c.if-not-contains.true))

pub returns-clause-told : goal.returns-clause-told
returns-clause-told c =
    let kept = c.args.kept.now in
    let set = kept.set in
    let column = c.row.result.now in
    let at = c.row.ensures in
    let here = sym c.contains.ensures ∙ c.if-not-contains.false in
    elim (cases_Bool c.is_subset.result) [
      | inl inside ↦ ap not inside ∙ ap (λ (e : Exchange). e.addable)
          (kept_row-exchanged set kept.base kept.columns c.args.x column column at refl here (c.is_subset.ensures.inside.0 inside))
      | inr leaves ↦ ap not leaves ∙ ap (λ (e : Exchange). e.addable)
          (kept_row-added set kept.base kept.columns c.args.x column set at refl here (λ i. both_ways _ leaves (c.is_subset.ensures.inside.1 i)))
    ]

pub returns-clause-rises : goal.returns-clause-rises
returns-clause-rises c = λ rising.
    let kept = c.args.kept.now in
    let set = kept.set in
    let column = c.row.result.now in
    let at = c.row.ensures in
    let here = sym c.contains.ensures ∙ c.if-not-contains.false in
    elim (cases_Bool c.is_subset.result) [
      | inl inside ↦ subst (λ (e : Exchange). IsRising e.with)
          (kept_row-exchanged set kept.base kept.columns c.args.x column column at refl here (c.is_subset.ensures.inside.0 inside)) c.is_subset.ensures.rises
      | inr leaves ↦ subst (λ (e : Exchange). IsRising e.with)
          (kept_row-added set kept.base kept.columns c.args.x column set at refl here (λ i. both_ways _ leaves (c.is_subset.ensures.inside.1 i))) rising
    ]
