use Rattle.mat_check.proofs.OptimalAnswers.{right_is_optimal as law}
use Rattle.mat_check.proofs.laws.right_is_optimal.Goals as goal

pub returns : goal.returns
returns c = law
