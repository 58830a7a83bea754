use Rattle.mat_witness.proofs.Common.{ap, ◌∙◌, is_member}
use Rattle.mat_witness.proofs.MarkedMembers.{marked_more}
use Rattle.mat_witness.proofs.parts.counted.mark.Goals as goal

pub loop-x-preserved : goal.loop-x-preserved
loop-x-preserved c = λ x.
    let items = c.as_slice-x-items.ensures.items in
    let inside = rw items at c.loop-x-test.true in
    let put = rw items at c.in_ok-insert.ensures.ok in
    ap (is_member x) put
    ∙ marked_more c.args.marks.now c.loop-x.marks c.args.set.now c.loop-x.x-index x inside (c.loop-x.invariant x)
