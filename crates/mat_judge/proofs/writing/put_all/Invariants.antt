use Rattle.mat_judge.proofs.Common.{◌≤◌, ◌-◌, length, take, Appended}
use Rattle.mat_judge.proofs.writing.put_all.Given as goal

abbrev pub invariant-loop-at : goal.invariant-loop-at
invariant-loop-at g l = record {
  within : l.at ≤ length l.text;
  grows : g.O.Sink.faults l.fn.sink ≤ g.O.Sink.faults l.sink;
  appended : Appended (g.O.Sink.written l.fn.sink) (take l.at l.text) (g.O.Sink.written l.sink);
}

abbrev pub decreases-loop-at : goal.decreases-loop-at
decreases-loop-at g l = length l.text - l.at
