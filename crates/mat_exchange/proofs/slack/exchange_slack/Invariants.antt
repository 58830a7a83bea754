use Rattle.mat_exchange.proofs.Common.{weight_at, exchanges_in, IsExchangeSlack, IsLeastOrNone}
use Rattle.mat_exchange.proofs.slack.exchange_slack.Given as goal

abbrev pub invariant-loop-y : goal.invariant-loop-y
invariant-loop-y l = IsLeastOrNone (IsExchangeSlack l.y (exchanges_in l.table) (weight_at l.weights) l.from l.into) l.least
