use Rattle.mat_any.proofs.Common.{ap, subst, ◌∙◌, IfOk-weaker, row_of, KeepsFlat, tree_of}
use Rattle.mat_any.proofs.PartLists.{united_joined, united_keeps, united_test}
use Rattle.mat_any.proofs.any.AnyMatroidMatroid.row.Goals as goal

pub row-requires-in-Flat-clause-sound : goal.row-requires-in-Flat-clause-sound
row-requires-in-Flat-clause-sound c = united_joined c.in_ok-union-in-Flat.ensures

pub row-requires-in-Flat-clause-base : goal.row-requires-in-Flat-clause-base
row-requires-in-Flat-clause-base c = ap (λ p. p c.args.base.now) (united_test c.in_ok-union-in-Flat.ensures) ∙ c.requires.base

pub row-requires-in-Flat-clause-kept : goal.row-requires-in-Flat-clause-kept
row-requires-in-Flat-clause-kept c =
    let base = c.args.base.now in
    let held = c.in-Flat.held in
    let kept = subst (KeepsFlat (tree_of c.args.self.now) base) c.in-Flat.is c.requires.kept in
    (united_joined c.in_ok-union-in-Flat.ensures, united_keeps c.in_ok-union-in-Flat.ensures base held.parts held.kept.items kept.1)

pub returns-in_ok-union-in-Flat-clause-row : goal.returns-in_ok-union-in-Flat-clause-row
returns-in_ok-union-in-Flat-clause-row c =
    IfOk-weaker c.row-in-Flat.result _ _ (λ e told. told ∙ ap (λ p. row_of p c.args.base.now c.args.x) (united_test c.in_ok-union-in-Flat.ensures)) c.row-in-Flat.ensures.row
