use Rattle.mat_laws.proofs.Triangular.{triangular_exchange as law}
use Rattle.mat_laws.proofs.laws.triangular_exchange.Goals as goal

pub returns : goal.returns
returns c = λ n p laws. law laws
