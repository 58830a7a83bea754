use Rattle.mat_union.proofs.Common.{◌≡◌, false, can_enter, exchanges_of}
use Rattle.mat_union.proofs.move_graph.enters.Given as goal

abbrev pub invariant-loop-i : goal.invariant-loop-i
invariant-loop-i l = can_enter l.i (exchanges_of l.rows) l.u ≡ false
