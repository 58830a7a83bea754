use Rattle.mat_exchange.proofs.RowExchanges.{rows_tell_exchanges as law}
use Rattle.mat_exchange.proofs.laws.rows_tell_exchanges.Goals as goal

pub returns : goal.returns
returns c = λ n p laws I ok. law laws I
