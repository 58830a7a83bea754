use Rattle.mat_judge.proofs.Common.{◌≤◌, take, Appended, all_texts}
use Rattle.mat_judge.proofs.writing.put_texts.Given as goal

abbrev pub invariant-loop-text : goal.invariant-loop-text
invariant-loop-text g l = record {
  grows : g.O.Sink.faults l.fn.sink ≤ g.O.Sink.faults l.sink;
  appended : Appended (g.O.Sink.written l.fn.sink) (all_texts (take l.text-index l.texts)) (g.O.Sink.written l.sink);
}
