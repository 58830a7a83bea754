use Rattle.mat_exchange.proofs.Common.{◌∙◌, sym, subst, weight_at, exchanges_in, IsExchangeSlackAt, IsLeast}
use Rattle.mat_exchange.proofs.SlackParts.{least_exchange_at}
use Rattle.mat_exchange.proofs.slack.exchange_slack_at.Goals as goal

pub returns : goal.returns
returns c =
    let exchanges = exchanges_in c.args.table.now in
    let w = weight_at c.args.weights.now in
    subst (IsLeast (IsExchangeSlackAt c.args.y exchanges w c.args.from.now c.args.into.now)) (sym c.excess.ensures)
    (least_exchange_at exchanges w c.args.from.now c.args.into.now c.args.y c.in_ok-column.column c.in_ok-column.ensures _
    (sym c.contains.ensures ∙ c.if-not-contains.false) c.in-Some.ensures)
