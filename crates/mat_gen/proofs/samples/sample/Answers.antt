use Rattle.mat_problem.specs.Views.{instance_of}
use Rattle.mat_gen.proofs.Validity.{answer_valid}
use Rattle.mat_gen.proofs.samples.sample.Goals as goal

pub returns-clause-valid : goal.returns-clause-valid
returns-clause-valid c = answer_valid instance_of c.args.kind c.args.size c.args.seed c.requires.few _ c.drawn.ensures
