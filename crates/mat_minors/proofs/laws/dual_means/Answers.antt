use Rattle.mat_minors.proofs.Common.{dual-gives, dual-from}
use Rattle.mat_minors.proofs.laws.dual_means.Goals as goal

pub returns : goal.returns
returns c = λ n p X laws. (dual-gives n p X, dual-from laws X)
