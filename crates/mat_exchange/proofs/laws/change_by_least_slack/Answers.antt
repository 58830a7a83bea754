use Rattle.mat_exchange.proofs.WeightChanges.{change_by_least_slack as law}
use Rattle.mat_exchange.proofs.laws.change_by_least_slack.Goals as goal

pub returns : goal.returns
returns c = λ n p q lp lq w1 w2 I R d first second stuck. law lp lq w1 w2 I R first second stuck d
