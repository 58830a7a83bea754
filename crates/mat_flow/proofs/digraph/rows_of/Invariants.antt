use Rattle.mat_flow.proofs.Common.{take, AreRows}
use Rattle.mat_flow.proofs.digraph.rows_of.Given as goal

abbrev pub invariant-loop-i : goal.invariant-loop-i
invariant-loop-i l = AreRows l.vertices (take l.i l.arcs) l.rows
