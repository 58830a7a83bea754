use Rattle.mat_any.proofs.Common.{refl, sym, ap, subst, ◌∙◌, IsRising, Exchange, dual_laws, kept_row_is}
use Rattle.mat_minors.specs.DualRows.{kept_row}
use Rattle.mat_any.proofs.rows.dual_adds_within.Goals as goal

pub returns : goal.returns
returns c =
    let base = c.args._base.now in
    let kept = c.args.kept.now in
    let rises = subst IsRising (sym c.requires.kept.marked) ((dual_laws _ _ c.lawful.ensures).sets base c.requires.base).rising in
    c.dual_adds.ensures.told
    ∙ ap (λ (e : Exchange). e.addable)
    (kept_row_is c.lawful.ensures base kept.set kept.base kept.columns c.args.x (kept_row kept.set kept.base kept.columns c.args.x) c.requires.base
    c.requires.kept c.requires.below c.requires.outside (c.dual_adds.ensures.rises rises) refl)
