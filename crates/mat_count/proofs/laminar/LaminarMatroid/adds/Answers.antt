use Rattle.mat_count.proofs.Common.{◌∙◌, ap, refl, Exchange}
use Rattle.mat_count.proofs.FullSetRows.{places_kept, row_at_smallest}
use Rattle.mat_count.proofs.laminar.LaminarMatroid.adds.Goals as goal

pub smallest-place-requires : goal.smallest-place-requires
smallest-place-requires c =
    let own = c.self.inside in
    places_kept own.count own.sets own.caps.items c.self.view_is own.places c.self.invariant c.args.kept.now c.requires.kept c.args.x c.requires.below c.get.ensures.item

pub returns : goal.returns
returns c =
    let own = c.self.inside in
    let best = rw c.get.ensures.item at c.smallest-place.ensures.smallest in
    c.has_room_at.ensures c.args._base.now own.sets ∙ ap (λ (r : Exchange). r.addable) (row_at_smallest own.count own.sets own.caps.items c.self.view_is own.places c.self.invariant c.args.kept.now c.requires.kept c.args.x c.requires.below
    c.requires.sound c.requires.base c.requires.outside best _ refl)
