use Rattle.mat_problem.proofs.SoundProblems.{IsSoundInstance-valid}
use Rattle.mat_problem.specs.Views.{instance_of}
use Rattle.mat_solve.proofs.solver.solve.Goals as goal

pub best-requires-clause-sound : goal.best-requires-clause-sound
best-requires-clause-sound g c = IsSoundInstance-valid (instance_of c.args.problem.now) c.requires.valid

pub intersect-requires-clause-sound : goal.intersect-requires-clause-sound
intersect-requires-clause-sound g c = IsSoundInstance-valid (instance_of c.args.problem.now) c.requires.valid

pub union-requires-clause-sound : goal.union-requires-clause-sound
union-requires-clause-sound g c = IsSoundInstance-valid (instance_of c.args.problem.now) c.requires.valid

pub pack-requires-clause-sound : goal.pack-requires-clause-sound
pack-requires-clause-sound g c = IsSoundInstance-valid (instance_of c.args.problem.now) c.requires.valid

pub cover-requires-clause-sound : goal.cover-requires-clause-sound
cover-requires-clause-sound g c = IsSoundInstance-valid (instance_of c.args.problem.now) c.requires.valid
