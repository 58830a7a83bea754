use Rattle.mat_desc.proofs.Common.{named_instance}
use Rattle.mat_desc.proofs.ProblemLaws.{named_gives_found, named_gives_only, named_gives_valid, named_gives_notated}
use Rattle.mat_desc.proofs.named.read_named.Goals as goal

pub returns-clause-found : goal.returns-clause-found
returns-clause-found c = named_gives_found named_instance c.args.text.now c.named_problem.result c.named_problem.ensures

pub returns-clause-only : goal.returns-clause-only
returns-clause-only c = named_gives_only named_instance c.args.text.now c.named_problem.result c.named_problem.ensures

pub returns-clause-valid : goal.returns-clause-valid
returns-clause-valid c = named_gives_valid named_instance c.args.text.now c.named_problem.result c.named_problem.ensures

pub returns-clause-notated : goal.returns-clause-notated
returns-clause-notated c = named_gives_notated named_instance c.args.text.now c.named_problem.result c.named_problem.ensures
