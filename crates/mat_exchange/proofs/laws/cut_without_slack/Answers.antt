use Rattle.mat_exchange.proofs.CutsWithoutSlack.{cut_without_slack as law}
use Rattle.mat_exchange.proofs.laws.cut_without_slack.Goals as goal

pub returns : goal.returns
returns c = λ n p q lp lq. law lp lq
