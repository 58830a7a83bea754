use Rattle.mat_union.proofs.ArcsOfParts.{arcs_none}
use Rattle.mat_union.proofs.exchange_arcs.ExchangeArcs.new.Goals as goal

pub returns : goal.returns
returns c = λ exchanges. arcs_none c.args.n (record { into = c.in_ok-into.into; entering = c.new-entering.result }) c.in_ok-into.ensures c.new-entering.ensures exchanges
