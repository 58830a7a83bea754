use Rattle.mat_count.proofs.Common.{length, sym, ap, ◌∙◌, subst, AllBelow, CappedClasses}
use Rattle.mat_count.proofs.ClassRows.{counted_below}
use Rattle.mat_count.proofs.partition.PartitionMatroid.keep.Goals as goal

pub members_by_class-requires-clause-below : goal.members_by_class-requires-clause-below
members_by_class-requires-clause-below c =
    let base = c.args.base.now in
    let own = c.args.self.now in
    subst (λ k. AllBelow k base)
    (ap (λ (p : CappedClasses). p.count) (sym c.self.view_is) ∙ sym c.self.invariant.entries ∙ ap length (sym c.deref.ensures.value))
    (counted_below own.count own.classes own.caps base c.requires.base)
