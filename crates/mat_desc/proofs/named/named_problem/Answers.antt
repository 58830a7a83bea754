use Rattle.mat_desc.proofs.Common.{written_instance}
use Rattle.mat_desc.proofs.ProblemLaws.{written_valid}
use Rattle.mat_desc.proofs.named.named_problem.Goals as goal

pub names_by-requires : goal.names_by-requires
names_by-requires c =
    written_valid c.args.text.now (written_instance c.in_ok-problem.problem c.in_ok-problem.notation) c.in_ok-problem.ensures
