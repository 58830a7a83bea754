use Rattle.mat_count.proofs.Common.{length, sym, ap, ◌∙◌, IfOk-weaker, CappedSets}
use Rattle.mat_count.proofs.FullSetRows.{places_kept, row_at_smallest}
use Rattle.mat_count.proofs.laminar.LaminarMatroid.row.Goals as goal

pub smallest-place-requires : goal.smallest-place-requires
smallest-place-requires c =
    let own = c.self.inside in
    places_kept own.count own.sets own.caps.items c.self.view_is own.places c.self.invariant c.args.kept.now c.requires.kept c.args.x c.requires.below c.get.ensures.item

pub row_at-requires-clause-sets : goal.row_at-requires-clause-sets
row_at-requires-clause-sets c = c.requires.kept.long ∙ ap (λ (m : CappedSets). length m.sets) (sym c.self.view_is)

pub row_at-requires-clause-base : goal.row_at-requires-clause-base
row_at-requires-clause-base c = c.requires.kept.marked

pub returns-clause-row : goal.returns-clause-row
returns-clause-row c =
    let own = c.self.inside in
    let best = rw c.get.ensures.item at c.smallest-place.ensures.smallest in
    IfOk-weaker _ _ _ (row_at_smallest own.count own.sets own.caps.items c.self.view_is own.places c.self.invariant c.args.kept.now c.requires.kept c.args.x c.requires.below
    c.requires.sound c.requires.base c.requires.outside best) c.row_at.ensures.row
