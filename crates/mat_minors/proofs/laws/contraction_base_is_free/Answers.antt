use Rattle.mat_minors.proofs.Common.{same_joined}
use Rattle.mat_minors.proofs.laws.contraction_base_is_free.Goals as goal

pub returns : goal.returns
returns c = λ n p away B C X laws. same_joined laws away B C X
