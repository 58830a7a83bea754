use Rattle.mat_desc.proofs.Common.{instance_of}
use Rattle.mat_desc.proofs.ProblemLaws.{gives_found, gives_only, gives_valid}
use Rattle.mat_desc.proofs.read.description.read_problem.Goals as goal

pub returns-clause-found : goal.returns-clause-found
returns-clause-found c = gives_found instance_of c.args.text.now c.problem_alone.result c.problem_alone.ensures

pub returns-clause-only : goal.returns-clause-only
returns-clause-only c = gives_only instance_of c.args.text.now c.problem_alone.result c.problem_alone.ensures

pub returns-clause-valid : goal.returns-clause-valid
returns-clause-valid c = gives_valid instance_of c.args.text.now c.problem_alone.result c.problem_alone.ensures
