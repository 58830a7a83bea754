use Rattle.mat_exchange.proofs.Common.{◌≡◌, length, sym, subst, arith, weight_at, exchanges_in, IsExchangeSlack, IsLeastOrNone}
use Rattle.mat_exchange.proofs.SlackParts.{least_exchange_next}
use Rattle.mat_exchange.proofs.slack.exchange_slack.Goals as goal

pub loop-y-preserved : goal.loop-y-preserved
loop-y-preserved c =
    let exchanges = exchanges_in c.args.table.now in
    let w = weight_at c.args.weights.now in
    let next = least_exchange_next exchanges w c.args.from.now c.args.into.now c.loop-y.y _ _ c.loop-y.invariant c.in_ok-slack.ensures in
    subst (IsLeastOrNone (IsExchangeSlack _ exchanges w c.args.from.now c.args.into.now)) (sym c.lesser-least.ensures) next

pub returns : goal.returns
returns c =
    let n = length c.args.weights.now in
    let exchanges = exchanges_in c.args.table.now in
    let w = weight_at c.args.weights.now in
    let end : c.loop-y.y ≡ n = omega arith in
    subst (λ k. IsLeastOrNone (IsExchangeSlack k exchanges w c.args.from.now c.args.into.now) c.loop-y.least) end c.loop-y.invariant
