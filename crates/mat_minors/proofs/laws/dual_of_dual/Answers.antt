use Rattle.mat_minors.proofs.DualOfDual as lemma
use Rattle.mat_minors.proofs.laws.dual_of_dual.Goals as goal

pub returns : goal.returns
returns c = λ n p X laws. lemma.dual_of_dual laws X
