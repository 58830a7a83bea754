use Rattle.mat_split.proofs.LaddersExist.{ladder_exists as law}
use Rattle.mat_split.proofs.laws.ladder_exists.Goals as goal

pub returns : goal.returns
returns c = λ n p q lp lq. law lp lq
