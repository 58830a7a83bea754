-- The invariant gives the bounds that each step requires; the loop enters one element more each time, so that fewer are left, and ends at a
-- sink or where no change does either.
use Rattle.mat_exchange.proofs.Common.{◌∙◌, ap, length, refl, arith}
use Rattle.mat_exchange.proofs.GrowthSteps.{growth_start, first_within, second_within, total_within, reached_below, other_below, gains_within}
use Rattle.mat_exchange.proofs.GrowthSteps.{top_within, inside_within, fewer_left, reached_few, first_start, others_less}
use Rattle.mat_exchange.proofs.EnteringSteps.{enter_below, enter_within, enter_outside, shifted_entered, entered}
use Rattle.mat_exchange.proofs.EndingSteps.{sink_within, sunk, sunk_root, sunk_top, ended, ended_root, ended_top}
use Rattle.mat_exchange.proofs.growth.grow_from.Goals as goal

pub reach_root-requires-clause-first_small : goal.reach_root-requires-clause-first_small
reach_root-requires-clause-first_small c = first_start _ c.args.w1.now c.args.w2.now refl c.requires.small c.requires.second_small

pub loop-x-init : goal.loop-x-init
loop-x-init c =
    growth_start c.requires.few c.requires.first_table c.requires.second_table c.requires.root
    c.requires.first_gains c.requires.second_gains c.requires.small c.requires.second_small refl c.requires.lengths
    c.in_ok-reached.ensures.length
    c.in_ok-reached.ensures.reached c.in_ok-reached.ensures.others c.in_ok-reached.ensures.fringe
    refl c.requires.top c.heaviest_with-inside.ensures

pub excess_or_none-slack-requires-clause-small : goal.excess_or_none-slack-requires-clause-small
excess_or_none-slack-requires-clause-small c = top_within c.loop-x.invariant

pub excess_or_none-slack-requires-clause-other_small : goal.excess_or_none-slack-requires-clause-other_small
excess_or_none-slack-requires-clause-other_small c = inside_within c.loop-x.invariant

pub next_step-requires : goal.next_step-requires
next_step-requires c = gains_within c.loop-x.invariant

pub put_back-requires-clause-first_small : goal.put_back-requires-clause-first_small
put_back-requires-clause-first_small c = first_within c.loop-x.invariant.shifted

pub put_back-requires-clause-second_small : goal.put_back-requires-clause-second_small
put_back-requires-clause-second_small c = second_within c.loop-x.invariant.shifted

pub put_back-requires-clause-below : goal.put_back-requires-clause-below
put_back-requires-clause-below c = rw c.loop-x.invariant.shifted.first_length
    (enter_below c.loop-x.invariant c.excess_or_none-slack.ensures c.in-Enter.is c.next_step.ensures)

pub put_back-requires-clause-total : goal.put_back-requires-clause-total
put_back-requires-clause-total c = enter_within c.loop-x.invariant c.excess_or_none-slack.ensures c.in-Enter.is c.next_step.ensures

pub change-requires-clause-reached : goal.change-requires-clause-reached
change-requires-clause-reached c = λ x m. rw c.loop-x.invariant.shifted.first_length (reached_below c.loop-x.invariant.shifted x m)

pub change-requires-clause-first_small : goal.change-requires-clause-first_small
change-requires-clause-first_small c = first_within c.loop-x.invariant.shifted

pub change-requires-clause-second_small : goal.change-requires-clause-second_small
change-requires-clause-second_small c = second_within c.loop-x.invariant.shifted

pub change-requires-clause-step : goal.change-requires-clause-step
change-requires-clause-step c =
    sink_within c.loop-x.invariant c.excess_or_none-slack.ensures c.in-Sink.is c.next_step.ensures

pub returns-in-Sink-clause-grown : goal.returns-in-Sink-clause-grown
returns-in-Sink-clause-grown c =
    sunk c.loop-x.invariant c.excess_or_none-slack.ensures c.in-Sink.is c.next_step.ensures c.change.new.w1 c.change.new.w2
    c.change.ensures.first c.change.ensures.second

pub returns-in-Sink-clause-root : goal.returns-in-Sink-clause-root
returns-in-Sink-clause-root c =
    sunk_root c.loop-x.invariant c.excess_or_none-slack.ensures c.in-Sink.is c.next_step.ensures c.change.new.w1 c.change.new.w2
    c.change.ensures.first c.change.ensures.second

pub returns-in-Sink-clause-top : goal.returns-in-Sink-clause-top
returns-in-Sink-clause-top c =
    sunk_top c.loop-x.invariant c.excess_or_none-slack.ensures c.in-Sink.is c.next_step.ensures c.change.new.w1 c.change.new.w2
    c.change.ensures.first c.change.ensures.second

pub change-requires-in-Nothing-clause-reached : goal.change-requires-in-Nothing-clause-reached
change-requires-in-Nothing-clause-reached c = λ x m. rw c.loop-x.invariant.shifted.first_length (reached_below c.loop-x.invariant.shifted x m)

pub change-requires-in-Nothing-clause-first_small : goal.change-requires-in-Nothing-clause-first_small
change-requires-in-Nothing-clause-first_small c = first_within c.loop-x.invariant.shifted

pub change-requires-in-Nothing-clause-second_small : goal.change-requires-in-Nothing-clause-second_small
change-requires-in-Nothing-clause-second_small c = second_within c.loop-x.invariant.shifted

pub change-requires-in-Nothing-clause-step : goal.change-requires-in-Nothing-clause-step
change-requires-in-Nothing-clause-step c = total_within c.loop-x.invariant.shifted

pub returns-in-Nothing-clause-grown : goal.returns-in-Nothing-clause-grown
returns-in-Nothing-clause-grown c =
    ended c.loop-x.invariant c.excess_or_none-slack.ensures c.in-Nothing.is c.next_step.ensures c.change-in-Nothing.new.w1 c.change-in-Nothing.new.w2
    c.change-in-Nothing.ensures.first c.change-in-Nothing.ensures.second

pub returns-in-Nothing-clause-root : goal.returns-in-Nothing-clause-root
returns-in-Nothing-clause-root c = ended_root c.loop-x.invariant c.change-in-Nothing.new.w1 c.change-in-Nothing.ensures.first

pub returns-in-Nothing-clause-top : goal.returns-in-Nothing-clause-top
returns-in-Nothing-clause-top c = ended_top c.loop-x.invariant c.change-in-Nothing.new.w2 c.change-in-Nothing.ensures.second

pub offer_exchanges-requires-clause-first_small : goal.offer_exchanges-requires-clause-first_small
offer_exchanges-requires-clause-first_small c =
    first_within (shifted_entered c.loop-x.invariant c.excess_or_none-slack.ensures c.in-Enter.is c.next_step.ensures
    c.put_back.new.w1 c.put_back.new.w2
    c.put_back.ensures.first_length c.put_back.ensures.second_length c.put_back.ensures.first c.put_back.ensures.second
    c.in_ok-insert-in-Enter.ensures.ok c.remove.ensures)

pub offer_exchanges-requires-clause-second_small : goal.offer_exchanges-requires-clause-second_small
offer_exchanges-requires-clause-second_small c =
    second_within (shifted_entered c.loop-x.invariant c.excess_or_none-slack.ensures c.in-Enter.is c.next_step.ensures
    c.put_back.new.w1 c.put_back.new.w2
    c.put_back.ensures.first_length c.put_back.ensures.second_length c.put_back.ensures.first c.put_back.ensures.second
    c.in_ok-insert-in-Enter.ensures.ok c.remove.ensures)

pub offer_exchanges-requires-clause-from_below : goal.offer_exchanges-requires-clause-from_below
offer_exchanges-requires-clause-from_below c =
    rw (c.put_back.ensures.first_length ∙ c.loop-x.invariant.shifted.first_length)
    (enter_below c.loop-x.invariant c.excess_or_none-slack.ensures c.in-Enter.is c.next_step.ensures)

pub offer_exchanges-requires-clause-others : goal.offer_exchanges-requires-clause-others
offer_exchanges-requires-clause-others c =
    rw (c.put_back.ensures.first_length ∙ c.loop-x.invariant.shifted.first_length)
    (others_less c.loop-x.others _ c.remove.ensures (other_below c.loop-x.invariant.shifted))

pub loop-x-smaller : goal.loop-x-smaller
loop-x-smaller c =
    let now = c.loop-x.invariant in
    let more = fewer_left now c.in-Enter.x c.in_ok-insert-in-Enter.ensures.ok
    (enter_outside now c.excess_or_none-slack.ensures c.in-Enter.is c.next_step.ensures) in
    let few = reached_few now in
    omega arith

pub loop-x-preserved : goal.loop-x-preserved
loop-x-preserved c =
    entered c.loop-x.invariant c.excess_or_none-slack.ensures c.in-Enter.is c.next_step.ensures c.put_back.new.w1 c.put_back.new.w2
    c.put_back.ensures.first_length c.put_back.ensures.second_length c.put_back.ensures.first c.put_back.ensures.second
    c.in_ok-reached.ensures.alike c.in_ok-insert-in-Enter.ensures.ok c.remove.ensures c.remove-in-Enter.ensures.members
    (c.offer_exchanges.ensures.length ∙ ap length c.remove-in-Enter.ensures.gains)
    c.heaviest_with-inside-in-Enter.ensures (rw c.remove-in-Enter.ensures.gains at c.in_ok-offer_exchanges-in-Enter.ensures.offered)
