use Rattle.mat_cuts.proofs.Common.{◌≡◌, length, ends_of}
use Rattle.mat_cuts.proofs.Reached.{IsReached}
use Rattle.mat_cuts.proofs.checking.is_spanning.Given as goal

abbrev pub invariant-loop : goal.invariant-loop
invariant-loop l = record {
  reached : IsReached l.vertices (ends_of l.arcs) l.root l.tree l.reached;
  size : length l.reached ≡ l.counter;
}
