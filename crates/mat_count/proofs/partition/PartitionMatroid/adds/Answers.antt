use Rattle.mat_count.proofs.Common.{◌∙◌, ap, refl, Exchange}
use Rattle.mat_count.proofs.FullSetRows.{entry_kept, row_at_class}
use Rattle.mat_count.proofs.partition.PartitionMatroid.adds.Goals as goal

pub has_room_at-requires : goal.has_room_at-requires
has_room_at-requires c =
    let own = c.self.inside in
    entry_kept own.count own.classes own.caps.items c.self.view_is own.class_of.items c.self.invariant c.args.kept.now c.requires.kept c.args.x c.requires.below c.index.ensures

pub returns : goal.returns
returns c =
    let own = c.self.inside in
    c.has_room_at.ensures c.args._base.now own.classes ∙ ap (λ (r : Exchange). r.addable) (row_at_class own.count own.classes own.caps.items c.self.view_is own.class_of.items c.self.invariant c.args.kept.now c.requires.kept c.args.x c.requires.below c.index.ensures
    c.requires.sound c.requires.base c.requires.outside _ refl)
