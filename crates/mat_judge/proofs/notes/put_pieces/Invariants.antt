use Rattle.mat_judge.proofs.Common.{◌≤◌, take, flat_map, Appended, piece_text}
use Rattle.mat_judge.proofs.notes.put_pieces.Given as goal

abbrev pub invariant-loop-piece : goal.invariant-loop-piece
invariant-loop-piece g l = record {
  grows : g.N.Sink.faults l.fn.notes ≤ g.N.Sink.faults l.notes;
  appended : Appended (g.N.Sink.written l.fn.notes) (flat_map piece_text (take l.piece-index l.pieces)) (g.N.Sink.written l.notes);
}
