use Rattle.mat_sets.proofs.Reach.{reached_by_induction as law}
use Rattle.mat_sets.proofs.laws.reached_by_induction.Goals as goal

pub returns : goal.returns
returns c = λ n arc start test reached. law reached test
