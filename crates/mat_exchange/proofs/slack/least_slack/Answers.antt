use Rattle.mat_exchange.proofs.Common.{length, ap, subst, is_member, weight_at, exchanges_in, IsAdditionSlack, IsExchangeSlack, IsLeastOrNone}
use Rattle.mat_exchange.proofs.SlackParts.{least_of_four, reached_below}
use Rattle.mat_exchange.proofs.slack.least_slack.Goals as goal

pub exchange_slack-requires-2-clause-below : goal.exchange_slack-requires-2-clause-below
exchange_slack-requires-2-clause-below c =
    reached_below (length c.args.w1.now) (length c.args.w2.now) c.args.reach.now _ c.requires.below c.requires.lengths
    (λ x. ap (is_member x) c.in_ok-reached.ensures.members)

pub addition_slack-requires-2-clause-below : goal.addition_slack-requires-2-clause-below
addition_slack-requires-2-clause-below c =
    reached_below (length c.args.w1.now) (length c.args.w2.now) c.args.reach.now _ c.requires.below c.requires.lengths
    (λ x. ap (is_member x) c.in_ok-reached.ensures.members)

pub returns : goal.returns
returns c =
    let n = length c.args.w1.now in
    let first = exchanges_in c.args.first.now in
    let second = exchanges_in c.args.second.now in
    let w1 = weight_at c.args.w1.now in
    let w2 = weight_at c.args.w2.now in
    let reached = c.in_ok-reached.reached in
    let others = c.in_ok-others.others in
    rw (c.lesser.ensures, c.lesser-first_slack.ensures, c.lesser-second_slack.ensures) (least_of_four n first second w1 w2 c.args.reach.now
    reached others c.requires.below (λ x. ap (is_member x) c.in_ok-reached.ensures.members) c.in_ok-others.ensures
    _ _ _ _ c.addition_slack.ensures c.in_ok-leaving.ensures
    (subst (λ m. IsLeastOrNone (IsExchangeSlack m second w2 others reached) c.in_ok-entering.entering) c.requires.lengths c.in_ok-entering.ensures)
    (subst (λ m. IsLeastOrNone (IsAdditionSlack m second w2 reached) c.addition_slack-2.result) c.requires.lengths c.addition_slack-2.ensures))
