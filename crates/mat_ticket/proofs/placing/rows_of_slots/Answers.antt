-- No place is empty before its turn, and what was in it is pushed.
use Rattle.mat_ticket.proofs.Common.{◌<◌, Some, length, set, ◌∙◌, sym, ap, arith, slice_get_read}
use Rattle.mat_ticket.proofs.Arranging.{emptying-next, not_empty}
use Rattle.mat_ticket.proofs.placing.rows_of_slots.Goals as goal

pub unreachable-requires : goal.unreachable-requires
unreachable-requires g c =
    let f = c.requires c.loop-i.i c.loop-i-test.true in
    not_empty c.loop-i.slots c.loop-i.i c.index-slots-i.result c.take.result f.row (c.loop-i.invariant.later c.loop-i.i (omega arith) ∙ f.here)
    c.in-None.is c.take.ensures.value

pub loop-i-preserved : goal.loop-i-preserved
loop-i-preserved g c =
    let inside : c.loop-i.i < length c.loop-i.slots = (let e = c.loop-i.invariant.count in omega (arith, c.loop-i-test.true)) in
    let here = slice_get_read c.loop-i.slots _ c.loop-i.i c.index-slots-i.result (λ i. length c.loop-i.slots) inside c.index-slots-i.is in
    let same = c.index-slots-i.is ∙ sym c.take.ensures.value ∙ c.in-Some.is in
    emptying-next c.args.slots.now c.loop-i.slots _ c.loop-i.rows.items c.push.new.self.items c.loop-i.i c.in-Some.row (here ∙ ap Some same)
    (ap (set c.loop-i.slots c.loop-i.i) c.take.ensures.after) c.in_ok-push-in-Some.ensures.items c.loop-i.invariant
