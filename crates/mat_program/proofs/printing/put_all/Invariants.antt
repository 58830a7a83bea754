use Rattle.std.proofs.Common.{◌≤◌, ◌-◌, length, take}
use Rattle.mat_shelf.specs.Writing.{Appended}
use Rattle.mat_program.proofs.printing.put_all.Given as goal

abbrev pub invariant-loop-at : goal.invariant-loop-at
invariant-loop-at g l = record {
  within : l.at ≤ length l.text;
  grows : g.O.Sink.faults l.fn.out ≤ g.O.Sink.faults l.out;
  appended : Appended (g.O.Sink.written l.fn.out) (take l.at l.text) (g.O.Sink.written l.out);
}

abbrev pub decreases-loop-at : goal.decreases-loop-at
decreases-loop-at g l = length l.text - l.at
