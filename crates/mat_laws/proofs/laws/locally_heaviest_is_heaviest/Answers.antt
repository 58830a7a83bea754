use Rattle.mat_laws.proofs.LocallyHeaviest.{locally_heaviest_is_heaviest as law}
use Rattle.mat_laws.proofs.laws.locally_heaviest_is_heaviest.Goals as goal

pub returns : goal.returns
returns c = λ n p laws. law laws
