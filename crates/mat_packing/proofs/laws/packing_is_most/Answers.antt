use Rattle.mat_packing.proofs.Copies.{packing_is_most as law}
use Rattle.mat_packing.proofs.laws.packing_is_most.Goals as goal

pub returns : goal.returns
returns c = λ n p laws. law laws
