use Rattle.mat_top.proofs.Common.{err_from_is_err_and, task_of}
use Rattle.mat_top.proofs.Ending.{refused}
use Rattle.mat_top.proofs.top_call.perform.Goals as goal

pub returns-in_err-texts-clause-ended : goal.returns-in_err-texts-clause-ended
returns-in_err-texts-clause-ended g c =
    let p = err_from_is_err_and c.from_residual.result c.from_residual.ensures.1 in
    rw (p.1, p.2) (refused (g.F.Shelf.held c.args.files.now) (task_of c.args.line.now.command) (g.F.Shelf.faults c.args.files.now)
    (g.F.Shelf.faults c.texts_for.new.files) (g.O.Sink.written c.args.out.now) (g.O.Sink.faults c.args.out.now)
    (g.O.Sink.faults c.args.out.now) c.in_err-texts.field-0.0 c.in_err-texts.ensures.refusal)
