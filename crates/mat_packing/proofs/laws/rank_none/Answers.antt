use Rattle.mat_packing.proofs.Copies.{rank_none as law}
use Rattle.mat_packing.proofs.laws.rank_none.Goals as goal

pub returns : goal.returns
returns c = λ n p laws. law laws
