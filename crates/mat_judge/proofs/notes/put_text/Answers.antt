use Rattle.mat_judge.proofs.Noting.{noted}
use Rattle.mat_judge.proofs.notes.put_text.Goals as goal

pub returns : goal.returns
returns g c =
    noted c.put_all.result c.args.line.now (g.N.Sink.written c.args.notes.now) (g.N.Sink.faults c.args.notes.now)
    (g.N.Sink.written c.put_all.new.sink) (g.N.Sink.faults c.put_all.new.sink) c.put_all.ensures.grows c.put_all.ensures.ok
    c.put_all.ensures.err c.put_all.ensures.cause
