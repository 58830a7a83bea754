use Rattle.mat_packing.proofs.Copies.{loop_has_no_cover as law}
use Rattle.mat_packing.proofs.laws.loop_has_no_cover.Goals as goal

pub returns : goal.returns
returns c = λ n p laws. law laws
