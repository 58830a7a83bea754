use Rattle.mat_exchange.proofs.HeaviestExchanges.{heaviest_in_rows, gains_in_rows}
use Rattle.mat_exchange.proofs.laws.heaviest_by_exchanges.Goals as goal

pub returns-clause-heaviest : goal.returns-clause-heaviest
returns-clause-heaviest c = λ n p laws w I. heaviest_in_rows laws w I

pub returns-clause-gains : goal.returns-clause-gains
returns-clause-gains c = λ n p laws w I. gains_in_rows laws w I
