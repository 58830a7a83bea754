use Rattle.mat_problem.specs.Views.{instance_of}
use Rattle.mat_report.proofs.ReportTexts.{memory_found}
use Rattle.mat_report.proofs.reporting.answer_text.Goals as goal

pub returns-in_err-text-clause-refusal : goal.returns-in_err-text-clause-refusal
returns-in_err-text-clause-refusal g c =
    memory_found (g.F.Shelf.held c.args.files.now) c.args.certificate.now (instance_of c.args.named.now.problem) (g.F.Shelf.faults c.args.files.now)
    (g.F.Shelf.faults c.right_answer_in.new.files) c.from_residual-in_err-text.result c.from_residual-in_err-text.ensures.1
