use Rattle.mat_judge.proofs.Common.{err_from_is_err_and, piece_text}
use Rattle.mat_judge.proofs.Pieces.{pieces_prefix}
use Rattle.mat_judge.proofs.notes.put_pieces.Goals as goal

pub returns-in_err-put_piece-clause-err : goal.returns-in_err-put_piece-clause-err
returns-in_err-put_piece-clause-err g c =
    let p = err_from_is_err_and c.from_residual.result c.from_residual.ensures.1 in
    rw p.1 (pieces_prefix piece_text (g.N.Sink.written c.args.notes.now) (g.N.Sink.written c.loop-piece.notes)
    (g.N.Sink.written c.put_piece.new.notes) c.args.pieces.now c.loop-piece.piece-index _ c.loop-piece-test.true
    c.loop-piece.invariant.appended c.in_err-put_piece.ensures.err)
