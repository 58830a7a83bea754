use Rattle.mat_problem.proofs.SoundProblems.{IsSoundInstance-valid}
use Rattle.mat_problem.proofs.laws.soundness_laws.Goals as goal

pub returns : goal.returns
returns c = IsSoundInstance-valid
