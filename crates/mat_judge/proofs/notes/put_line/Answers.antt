use Rattle.mat_judge.proofs.Common.{flat_map, piece_text}
use Rattle.mat_judge.proofs.Noting.{noted}
use Rattle.mat_judge.proofs.notes.put_line.Goals as goal

pub returns : goal.returns
returns g c =
    noted c.put_pieces.result (flat_map piece_text c.args.pieces.now) (g.N.Sink.written c.args.notes.now) (g.N.Sink.faults c.args.notes.now)
    (g.N.Sink.written c.put_pieces.new.notes) (g.N.Sink.faults c.put_pieces.new.notes) c.put_pieces.ensures.grows c.put_pieces.ensures.ok
    c.put_pieces.ensures.err c.put_pieces.ensures.cause
