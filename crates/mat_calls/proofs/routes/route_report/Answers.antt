use Rattle.mat_problem.specs.Views.{instance_of}
use Rattle.mat_problem.proofs.SoundProblems.{IsSoundInstance-valid}
use Rattle.mat_calls.proofs.routes.route_report.Goals as goal

pub told_of_owned-requires : goal.told_of_owned-requires
told_of_owned-requires c = IsSoundInstance-valid (instance_of c.in-Ok.problem) (rw c.in-Ok.is at c.read_problem.ensures.valid)
