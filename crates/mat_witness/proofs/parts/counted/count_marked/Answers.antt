use Rattle.mat_witness.proofs.Common.{◌≡◌, length, take, sym, ap, ◌∙◌, arith, intersection, intersection-none}
use Rattle.mat_witness.proofs.MarkedMembers.{count_small, counted_next, counted_passed}
use Rattle.mat_witness.proofs.parts.counted.count_marked.Goals as goal
use Rattle.mat_witness.proofs.parts.counted.count_marked.Goals.{then-contains, else-contains}

pub loop-x-init : goal.loop-x-init
loop-x-init c = sym (ap length (intersection-none c.args.marks.now))

pub overflow_add-number : goal.overflow_add-number
overflow_add-number c =
    let before : c.loop-x.number ≡ length (intersection (take c.loop-x.x-index c.args.set.now) c.args.marks.now) = c.loop-x.invariant in
    let small = count_small c.args.set.now c.args.marks.now c.loop-x.x-index in
    omega (arith, c.as_slice-x-items.type_inv)

pub loop-x-preserved : goal.loop-x-preserved
loop-x-preserved c =
    let set = c.args.set.now in
    let marks = c.args.marks.now in
    let i = c.loop-x.x-index in
    let items = c.as_slice-x-items.ensures.items in
    let inside = rw items at c.loop-x-test.true in
    let asked = rw items at c.contains.ensures in
    elim c.if-contains.branch [
      | then-contains w ↦
          w.number-is ∙ counted_next set marks i c.loop-x.number inside c.loop-x.invariant (sym asked ∙ w.if-contains.true)
      | else-contains w ↦
          w.number-is ∙ counted_passed set marks i c.loop-x.number inside c.loop-x.invariant (sym asked ∙ w.if-contains.false)
    ]
