use Rattle.mat_count.proofs.Common.{length, sym, ap, ◌∙◌, IfOk-weaker, CappedClasses}
use Rattle.mat_count.proofs.FullSetRows.{entry_kept, row_at_class}
use Rattle.mat_count.proofs.partition.PartitionMatroid.row.Goals as goal

pub row_at-requires-clause-place : goal.row_at-requires-clause-place
row_at-requires-clause-place c =
    let own = c.self.inside in
    entry_kept own.count own.classes own.caps.items c.self.view_is own.class_of.items c.self.invariant c.args.kept.now c.requires.kept c.args.x c.requires.below c.index.ensures

pub row_at-requires-clause-sets : goal.row_at-requires-clause-sets
row_at-requires-clause-sets c = c.requires.kept.long ∙ ap (λ (p : CappedClasses). length p.classes) (sym c.self.view_is)

pub row_at-requires-clause-base : goal.row_at-requires-clause-base
row_at-requires-clause-base c = c.requires.kept.marked

pub returns-clause-row : goal.returns-clause-row
returns-clause-row c =
    let own = c.self.inside in
    IfOk-weaker _ _ _ (row_at_class own.count own.classes own.caps.items c.self.view_is own.class_of.items c.self.invariant c.args.kept.now c.requires.kept c.args.x c.requires.below c.index.ensures
    c.requires.sound c.requires.base c.requires.outside) c.row_at.ensures.row
