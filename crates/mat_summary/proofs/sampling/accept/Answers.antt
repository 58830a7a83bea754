use Rattle.mat_problem.specs.Views.{instance_of}
use Rattle.mat_summary.proofs.Common.{certificate_of}
use Rattle.mat_check.proofs.AnswerForms.{right_fits}
use Rattle.mat_summary.proofs.sampling.accept.Goals as goal

pub check-requires-clause-fits : goal.check-requires-clause-fits
check-requires-clause-fits g c =
    right_fits (instance_of c.args.problem.now) (certificate_of c.args.answer.now) c.requires.right

pub unreachable-requires : goal.unreachable-requires
unreachable-requires g c = absurd (cc (c.in_ok-check.ensures.yes.1 c.requires.right, c.in-No.is))
