use Rattle.mat_report.proofs.ReportEnding.{ended-refused}
use Rattle.mat_report.proofs.reporting.perform.Goals as goal

pub returns-in_err-text-clause-ended : goal.returns-in_err-text-clause-ended
returns-in_err-text-clause-ended g c =
    ended-refused g.T.AnswerText.says (g.F.Shelf.held c.args.files.now) c.args.description.now c.args.certificate.now
    (g.F.Shelf.faults c.args.files.now) (g.F.Shelf.faults c.report_text.new.files) (g.O.Sink.written c.args.out.now)
    (g.O.Sink.faults c.args.out.now) (g.O.Sink.faults c.args.out.now) c.in_err-text.field-0.0 c.from_residual.result
    c.from_residual.ensures.1 c.in_err-text.ensures.refusal
