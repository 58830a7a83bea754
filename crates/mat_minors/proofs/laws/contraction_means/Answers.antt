use Rattle.mat_minors.proofs.Common.{contraction-gives, contraction-from}
use Rattle.mat_minors.proofs.laws.contraction_means.Goals as goal

pub returns : goal.returns
returns c = λ n p away X laws r. (contraction-gives n p away X r, contraction-from laws away X r)
