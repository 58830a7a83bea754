use Rattle.mat_gf2.proofs.Common.{◌≡◌, ◌∙◌, ap, subst, IfOk, column_of, is_linearly_independent}
use Rattle.mat_gf2.proofs.Eliminating.{is_gf2-answer}
use Rattle.mat_gf2.proofs.gf2.Gf2Matroid.independent.Goals as goal

pub returns : goal.returns
returns c =
    let same : c.deref.result.now ≡ c.args.self.now.columns = c.deref.ensures.value ∙ ap (λ m. m.columns) c.self.view_is in
    is_gf2-answer _ (column_of c.args.self.now.columns) c.args.set.now c.are_independent.result c.requires.below
    (subst (λ columns. IfOk c.are_independent.result (λ b. b ≡ is_linearly_independent (column_of columns) c.args.set.now)) same
    c.are_independent.ensures.answer)
    c.are_independent.ensures.rises
