-- The rows are those of the arcs so far.
use Rattle.mat_witness.proofs.Common.{take, AreArcRows}
use Rattle.mat_witness.proofs.parts.gammoids.arcs.arc_rows.Given as goal

abbrev pub invariant-loop-i : goal.invariant-loop-i
invariant-loop-i l = AreArcRows l.vertices (take l.i l.arcs) l.rows
