use Rattle.mat_count.proofs.Common.{sym, ap, ◌∙◌, subst, AllBelow, CappedSets}
use Rattle.mat_count.proofs.ClassRows.{counted_below}
use Rattle.mat_count.proofs.laminar.LaminarMatroid.keep.Goals as goal

pub members_by_set-requires-clause-below : goal.members_by_set-requires-clause-below
members_by_set-requires-clause-below c =
    let base = c.args.base.now in
    let own = c.args.self.now in
    subst (λ k. AllBelow k base) (ap (λ (m : CappedSets). m.count) (sym c.self.view_is) ∙ sym c.self.invariant.entries)
    (counted_below own.count own.sets own.caps base c.requires.base)
