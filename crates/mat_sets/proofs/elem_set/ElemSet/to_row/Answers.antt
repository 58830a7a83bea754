use Rattle.mat_sets.proofs.Common.{sym, ap, ◌∙◌, get_or, with_one}
use Rattle.mat_sets.proofs.Steps.{take-with_one}
use Rattle.mat_sets.proofs.Sums.{AllBelow-at}
use Rattle.mat_sets.proofs.elem_set.ElemSet.to_row.Goals as goal

pub insert-requires : goal.insert-requires
insert-requires c =
    let items = c.as_slice-x-items.ensures.items in
    let inside = rw items at c.loop-x-test.true in
    rw items (AllBelow-at 512 c.args.self.now c.loop-x.x-index c.requires inside)

pub loop-x-preserved : goal.loop-x-preserved
loop-x-preserved c =
    let set = c.args.self.now in
    let i = c.loop-x.x-index in
    let items = c.as_slice-x-items.ensures.items in
    let inside = rw items at c.loop-x-test.true in
    rw items at c.insert.ensures ∙ ap (λ s. with_one s (get_or set i 0)) c.loop-x.invariant
    ∙ sym (take-with_one set i c.as_slice-x-items.ensures.rises inside)
