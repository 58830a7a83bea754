-- The search back from the vertex reaches the ends that can give way to it; where it meets a source, a path more is found.
use Rattle.mat_flow.proofs.Common.{[], ◌∙◌, ap, refl, Some, subst, both_ways, all_below, IsRoom}
use Rattle.mat_flow.proofs.FirstGoals.{bits_reach}
use Rattle.mat_flow.proofs.PushedWalks.{first_search_tells}
use Rattle.mat_flow.proofs.Rerouting.{only_the_end, reached_tells, searchable}
use Rattle.mat_flow.proofs.reroutes.Reroutes.giving_way.Goals as goal

pub seek-requires-clause-sound : goal.seek-requires-clause-sound
seek-requires-clause-sound c =
    let k = c.requires in
    searchable k.0 k.1 c.args.sources.now k.2 c.args.self.now k.4 c.args.back.now k.3 c.deref.result.now c.deref.ensures.value

pub seek-requires-clause-room : goal.seek-requires-clause-room
seek-requires-clause-room c = subst (λ n. IsRoom n c.in_ok-room.room) c.vertices.ensures.count c.in_ok-room.ensures.room

pub returns-in-Some-clause-ways : goal.returns-in-Some-clause-ways
returns-in-Some-clause-ways c = λ vertices arcs ends is k new.
    let told = first_search_tells vertices arcs c.args.sources.now ends c.args.self.now k c.deref.result.now c.deref.ensures.value c.args.back.now is
    c.args.v _ (c.in_ok-room.ensures.all ∙ ap all_below c.vertices.ensures.count) _ [] (Some c.in-Some.field-0)
    (rw c.in-Some.is at c.in_ok-seek.ensures.walk) in
    (told.0 refl).1

pub returns-in-Some-clause-own : goal.returns-in-Some-clause-own
returns-in-Some-clause-own c = λ vertices arcs ends is k old.
    let told = first_search_tells vertices arcs c.args.sources.now ends c.args.self.now k c.deref.result.now c.deref.ensures.value c.args.back.now is
    c.args.v _ (c.in_ok-room.ensures.all ∙ ap all_below c.vertices.ensures.count) _ [] (Some c.in-Some.field-0)
    (rw c.in-Some.is at c.in_ok-seek.ensures.walk) in
    absurd (both_ways _ (told.0 refl).0 old)

pub returns-clause-ways : goal.returns-clause-ways
returns-clause-ways c = λ vertices arcs ends is k new.
    let found = rw c.in-None.is at c.in_ok-seek.ensures.walk in
    let reach = bits_reach c.args.back.now.vertices _ _ _ _ _ _ c.in_ok-reached-in-None.field-0
    (c.in_ok-room.ensures.all ∙ ap all_below c.vertices.ensures.count) found.0 found.1 c.in_ok-reached-in-None.ensures.members c.in_ok-reached-in-None.ensures.rises in
    reached_tells vertices arcs c.args.sources.now ends c.args.self.now k c.args.back.now is c.args.v _ refl c.deref.result.now c.deref.ensures.value new
    c.in_ok-reached-in-None.field-0 reach.0 reach.1

pub returns-clause-own : goal.returns-clause-own
returns-clause-own c = λ vertices arcs ends is k old.
    let found = rw c.in-None.is at c.in_ok-seek.ensures.walk in
    let reach = bits_reach c.args.back.now.vertices _ _ _ _ _ _ c.in_ok-reached-in-None.field-0
    (c.in_ok-room.ensures.all ∙ ap all_below c.vertices.ensures.count) found.0 found.1 c.in_ok-reached-in-None.ensures.members c.in_ok-reached-in-None.ensures.rises in
    ap Some (only_the_end vertices arcs c.args.sources.now ends c.args.self.now k c.args.back.now is c.args.v _ refl c.deref.result.now
    c.deref.ensures.value old c.in_ok-reached-in-None.field-0 reach.0)
