use Rattle.mat_top.proofs.Common.{Some, Err, sym, task_of, note_of}
use Rattle.mat_judge.specs.declared.refusal.Refusal.TheVariants as refusals
use Rattle.mat_top.proofs.Ending.{note_is, ended-true, ended-written}
use Rattle.mat_top.proofs.top_call.run.Goals as goal

pub returns-in_default-clause-noted : goal.returns-in_default-clause-noted
returns-in_default-clause-noted g c = (note_of refusals.Usage, note_is (g.F.Shelf.held c.args.files.now) _ refusals.Usage tt, c.put_note.ensures)

pub returns-in-Err-clause-written : goal.returns-in-Err-clause-written
returns-in-Err-clause-written g c =
    rw (sym c.in-Some.ensures, c.status.ensures)
    (ended-written (g.F.Shelf.held c.args.files.now) (task_of c.in-Some.line.command) _ _ (g.O.Sink.written c.args.out.now) _
    (g.O.Sink.written c.perform.new.out) _ (Err c.in-Err.refusal) c.in-Err.ensures.ended)

pub returns-in-Err-clause-noted : goal.returns-in-Err-clause-noted
returns-in-Err-clause-noted g c =
    let held = g.F.Shelf.held c.args.files.now in
    let task = task_of c.in-Some.line.command in
    let refusal = c.in-Err.refusal in (
      note_of refusal,
      rw (sym c.in-Some.ensures, c.status.ensures) (note_is held (Some task) refusal (ended-true held task _ _ (g.O.Sink.written c.args.out.now) _
          (g.O.Sink.written c.perform.new.out) _ refusal c.in-Err.ensures.ended)),
      c.put_note-in-Err.ensures,
    )
