use Rattle.mat_sets.proofs.Common.{sym, ap, ◌∙◌, get_or, with_one}
use Rattle.mat_sets.proofs.Steps.{take-with_one}
use Rattle.mat_sets.proofs.elem_set.ElemSet.to_bits.Goals as goal

pub loop-x-preserved : goal.loop-x-preserved
loop-x-preserved c =
    let set = c.args.self.now in
    let i = c.loop-x.x-index in
    let items = c.as_slice-x-items.ensures.items in
    let inside = rw items at c.loop-x-test.true in
    rw items at c.in_ok-insert.ensures.ok ∙ ap (λ s. with_one s (get_or set i 0)) c.loop-x.invariant
    ∙ sym (take-with_one set i c.as_slice-x-items.ensures.rises inside)
