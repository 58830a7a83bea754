use Rattle.mat_laws.proofs.Symmetric.{symmetric_exchange as law}
use Rattle.mat_laws.proofs.laws.symmetric_exchange.Goals as goal

pub returns : goal.returns
returns c = λ n p laws. law laws
