use Rattle.mat_union.proofs.Common.{refl}
use Rattle.mat_union.proofs.ArcsOfParts.{reached_from}
use Rattle.mat_union.proofs.exchange_arcs.ExchangeArcs.follow.Goals as goal

pub returns : goal.returns
returns c = λ n m exchanges a. reached_from c.args.self.now _ c.args.members.now a c.in_ok-follow_rows.ensures refl
