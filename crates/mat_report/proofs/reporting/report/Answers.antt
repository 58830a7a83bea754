use Rattle.std.proofs.Common.{Some, Err}
use Rattle.mat_judge.specs.Notes.{note_of}
use Rattle.mat_top.proofs.Ending.{note_is}
use Rattle.mat_report.specs.Reports.{check_of}
use Rattle.mat_report.proofs.ReportEnding.{ended-true, ended-written}
use Rattle.mat_report.proofs.reporting.report.Goals as goal

pub returns-in-Err-clause-written : goal.returns-in-Err-clause-written
returns-in-Err-clause-written g c =
    rw c.status.ensures
    (ended-written g.T.AnswerText.says (g.F.Shelf.held c.args.files.now) c.args.description.now c.args.certificate.now _ _
    (g.O.Sink.written c.args.out.now) _ (g.O.Sink.written c.perform.new.out) _ (Err c.in-Err.refusal) c.in-Err.ensures.ended)

pub returns-in-Err-clause-noted : goal.returns-in-Err-clause-noted
returns-in-Err-clause-noted g c =
    let held = g.F.Shelf.held c.args.files.now in
    let description = c.args.description.now in
    let certificate = c.args.certificate.now in
    let refusal = c.in-Err.refusal in (
      note_of refusal,
      rw c.status.ensures (note_is held (Some (check_of description certificate)) refusal
          (ended-true g.T.AnswerText.says held description certificate _ _ (g.O.Sink.written c.args.out.now) _
          (g.O.Sink.written c.perform.new.out) _ refusal c.in-Err.ensures.ended)),
      c.put_note.ensures,
    )
