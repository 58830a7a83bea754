use Rattle.mat_count.proofs.Common.{◌+◌, ◌<◌, ◌∙◌, sym, ap, length, get_or, subst, AllBelow-at}
use Rattle.mat_count.proofs.KeptSets.{IsLooking, IsLooking-found, IsLooking-passed}
use Rattle.mat_count.proofs.full_sets.FullSets.smallest.Goals as goal
use Rattle.mat_count.proofs.full_sets.FullSets.smallest.Goals.{then-has_fewer, else-has_fewer}

pub has_fewer-requires-clause-place : goal.has_fewer-requires-clause-place
has_fewer-requires-clause-place c =
    let items = c.as_slice-place-items.ensures.items in
    let inside = rw items at c.loop-place-test.true in
    rw items (AllBelow-at (length c.args.self.now.sizes.items) c.args.places.now c.loop-place.place-index c.requires inside)

pub loop-place-preserved : goal.loop-place-preserved
loop-place-preserved c =
    let sizes = c.args.self.now.sizes.items in
    let places = c.args.places.now in
    let i = c.loop-place.place-index in
    let items = c.as_slice-place-items.ensures.items in
    let inside = rw items at c.loop-place-test.true in
    let at = ap (λ s. get_or s i 0) items in
    let known : get_or c.as_slice-place-items.result.now i 0 < length sizes = rw items (AllBelow-at (length sizes) places i c.requires inside) in
    let asked = c.has_fewer.ensures in
    elim c.if-has_fewer.branch [
      | then-has_fewer w ↦ subst (IsLooking sizes places (i + 1)) (sym w.smallest-is)
          (IsLooking-found c.loop-place.invariant _ inside at known (sym asked ∙ w.if-has_fewer.true))
      | else-has_fewer w ↦ subst (IsLooking sizes places (i + 1)) (sym w.smallest-is)
          (IsLooking-passed c.loop-place.invariant _ inside at (sym asked ∙ w.if-has_fewer.false))
    ]
