use Rattle.mat_packing.proofs.Copies.{covering_is_least as law}
use Rattle.mat_packing.proofs.laws.covering_is_least.Goals as goal

pub returns : goal.returns
returns c = λ n p laws sets cut cover r. law laws sets cut r
