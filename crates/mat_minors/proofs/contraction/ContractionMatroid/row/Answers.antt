use Rattle.mat_minors.proofs.Common.{refl, sym, ◌∙◌}
use Rattle.mat_minors.proofs.MinorRows.{contracted_row_outside, joined_outside, joined_passes, joined_row}
use Rattle.mat_minors.proofs.contraction.ContractionMatroid.row.Goals as goal

pub returns-then-contains-clause-row : goal.returns-then-contains-clause-row
returns-then-contains-clause-row g c =
    contracted_row_outside _ (g.M.Matroid.indep c.args.self.now.inner) c.args.self.now.away c.args.base.now c.args.x _
    c.requires.sound.1.set.rising c.requires.outside (sym c.contains.ensures.found ∙ c.if-contains.true) refl c.new.ensures.members

pub row-requires-clause-base : goal.row-requires-clause-base
row-requires-clause-base g c =
    joined_passes (g.met.M.Matroid.laws c.args.self.now.inner c.requires.sound.0) c.requires.sound.1 c.args.base.now c.requires.kept.0 c.requires.base

pub row-requires-clause-outside : goal.row-requires-clause-outside
row-requires-clause-outside g c =
    joined_outside (g.met.M.Matroid.laws c.args.self.now.inner c.requires.sound.0) c.requires.sound.1 c.args.base.now c.requires.kept.0 c.requires.base
    c.args.x c.requires.outside (sym c.contains.ensures.found ∙ c.if-contains.false)

pub returns-clause-row : goal.returns-clause-row
returns-clause-row g c =
    joined_row (g.met.M.Matroid.laws c.args.self.now.inner c.requires.sound.0) c.requires.sound.1 c.args.base.now c.requires.kept.0 c.requires.base
    c.args.x c.requires.outside (sym c.contains.ensures.found ∙ c.if-contains.false) c.requires.below c.in_ok-inner.inner _ c.in_ok-inner.ensures.row
    refl c.in_ok-minus.ensures.members
