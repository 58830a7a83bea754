use Rattle.mat_laws.proofs.Maximal.{span as law}
use Rattle.mat_laws.proofs.laws.span.Goals as goal

pub returns : goal.returns
returns c = λ n p laws. law laws
