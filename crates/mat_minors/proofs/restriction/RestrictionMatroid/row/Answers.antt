use Rattle.mat_minors.proofs.Common.{refl, sym, ◌∙◌, IfOk-weaker}
use Rattle.mat_minors.proofs.MinorRows.{restricted_row, restricted_row_outside}
use Rattle.mat_minors.proofs.restriction.RestrictionMatroid.row.Goals as goal

pub returns-then-not-contains-clause-row : goal.returns-then-not-contains-clause-row
returns-then-not-contains-clause-row g c =
    restricted_row_outside (g.M.Matroid.indep c.args.self.now.inner) c.args.self.now.kept c.args.base.now c.args.x _ c.requires.outside
    (sym c.contains.ensures.found ∙ c.if-not-contains.true) refl c.new.ensures.members

pub returns-clause-row : goal.returns-clause-row
returns-clause-row g c =
    let restricted = restricted_row (g.met.M.Matroid.laws c.args.self.now.inner c.requires.sound.0) c.args.self.now.kept c.args.base.now c.args.x in
    IfOk-weaker _ _ _ (λ row told. restricted row c.requires.base c.requires.outside (sym c.contains.ensures.found ∙ c.if-not-contains.false) told)
    c.row.ensures.row
