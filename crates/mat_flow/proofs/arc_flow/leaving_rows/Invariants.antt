use Rattle.mat_flow.proofs.Common.{take, ends_of, AreLeaving}
use Rattle.mat_flow.proofs.arc_flow.leaving_rows.Given as goal

abbrev pub invariant-loop-a : goal.invariant-loop-a
invariant-loop-a l = AreLeaving l.vertices (ends_of l.arcs) (take l.a-index l.live) l.rows
