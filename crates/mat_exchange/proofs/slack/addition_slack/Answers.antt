use Rattle.mat_exchange.proofs.Common.{length, sym, subst, weight_at, exchanges_in, IsAdditionSlack, IsLeast}
use Rattle.mat_exchange.proofs.SlackParts.{least_addition}
use Rattle.mat_exchange.proofs.slack.addition_slack.Goals as goal

pub returns : goal.returns
returns c =
    let weights = c.args.weights.now in
    let rows = c.args.table.now in
    subst (IsLeast (IsAdditionSlack (length weights) (exchanges_in rows) (weight_at weights) c.args.into.now)) (sym c.excess.ensures)
    (least_addition (length weights) rows (weight_at weights) c.addable_elements.result.now c.args.into.now
    c.requires.count c.addable_elements.ensures.elements _ _ c.in_ok-most.ensures c.in_ok-x.ensures)
