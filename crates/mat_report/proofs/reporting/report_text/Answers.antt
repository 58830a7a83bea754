use Rattle.mat_command.specs.CommandLines.{check}
use Rattle.mat_desc.specs.Views.{named_instance}
use Rattle.mat_problem.specs.Views.{instance_of}
use Rattle.mat_top.proofs.Refusing.{none_found}
use Rattle.mat_report.proofs.ReportTexts.{described_there, report_found}
use Rattle.mat_report.proofs.reporting.report_text.Goals as goal

pub returns-clause-text : goal.returns-clause-text
returns-clause-text g c =
    report_found g.T.AnswerText.says (g.F.Shelf.held c.args.files.now) (g.F.Shelf.held c.named_in.new.files) c.in_ok-named.ensures.held
    c.args.description.now c.args.certificate.now (named_instance c.in_ok-named.named) c.in_ok-named.ensures.named c.answer_text-text.result
    (λ v. v.items) c.answer_text-text.ensures.text

pub returns-clause-refusal : goal.returns-clause-refusal
returns-clause-refusal g c =
    none_found (g.F.Shelf.held c.args.files.now) (g.F.Shelf.held c.named_in.new.files) c.in_ok-named.ensures.held c.args.description.now
    (check c.args.certificate.now) (instance_of c.in_ok-named.named.problem)
    (described_there (g.F.Shelf.held c.args.files.now c.args.description.now) (named_instance c.in_ok-named.named) c.in_ok-named.ensures.named)
    c.answer_text-text.result (g.F.Shelf.faults c.args.files.now) (g.F.Shelf.faults c.named_in.new.files)
    (g.F.Shelf.faults c.answer_text-text.new.files) c.in_ok-named.ensures.grows c.answer_text-text.ensures.refusal
