use Rattle.mat_desc.proofs.Common.{◌+◌, ◌-◌, ap, drop, sym, take, ◌∙◌}
use Rattle.mat_desc.proofs.MeetingSets.{NoneBefore-more, crosses-one, found_listed, is_crossed-found, is_crossed-none}
use Rattle.mat_desc.proofs.read.earlier_sets.EarlierSets.crosses_meeting.Goals as goal

pub returns-then-is_some : goal.returns-then-is_some
returns-then-is_some c =
    let sets = c.self.inside.sets.items in
    let next = c.args.next.now in
    let meeting = rw (sym c.self.view_is) at c.in_ok-places.ensures in
    let found = rw c.requires.same at c.crossing_bits.ensures in
    let at = c.in-Some.place in
    let listed = found_listed sets next c.in_ok-places.places c.loop-place.from at meeting c.in-Some.ensures in
    let one = crosses-one c.crossing_bits.result sets _ next at listed (ap (λ s. take (at + 1 - at) (drop at s)) c.as_slice.ensures.value) found in
    rw (sym c.self.view_is) (sym (is_crossed-found sets next c.in_ok-places.places c.loop-place.from at meeting c.in-Some.ensures
    (one ∙ sym c.is_some.ensures ∙ c.if-is_some.true) c.loop-place.invariant))

pub loop-place-preserved : goal.loop-place-preserved
loop-place-preserved c =
    let sets = c.self.inside.sets.items in
    let next = c.args.next.now in
    let meeting = rw (sym c.self.view_is) at c.in_ok-places.ensures in
    let found = rw c.requires.same at c.crossing_bits.ensures in
    let at = c.in-Some.place in
    let listed = found_listed sets next c.in_ok-places.places c.loop-place.from at meeting c.in-Some.ensures in
    let one = crosses-one c.crossing_bits.result sets _ next at listed (ap (λ s. take (at + 1 - at) (drop at s)) c.as_slice.ensures.value) found in
    NoneBefore-more sets next c.in_ok-places.places c.loop-place.from at meeting c.in-Some.ensures
    (one ∙ sym c.is_some.ensures ∙ c.if-is_some.false) c.loop-place.invariant

pub returns : goal.returns
returns c =
    let sets = c.self.inside.sets.items in
    let meeting = rw (sym c.self.view_is) at c.in_ok-places.ensures in
    rw (sym c.self.view_is)
    (sym (is_crossed-none sets c.args.next.now c.in_ok-places.places c.loop-place.from meeting c.in_default.ensures c.loop-place.invariant))
