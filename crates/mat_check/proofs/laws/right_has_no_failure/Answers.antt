use Rattle.mat_check.proofs.RightAnswers.{right_has_no_failure as law}
use Rattle.mat_check.proofs.laws.right_has_no_failure.Goals as goal

pub returns : goal.returns
returns c = law
