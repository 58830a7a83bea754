use Rattle.mat_flow.proofs.Common.{ends_of}
use Rattle.mat_flow.proofs.ArcFlows.{IsLeaving}
use Rattle.mat_flow.proofs.arc_flow.left_out.Given as goal

abbrev pub invariant-loop-a : goal.invariant-loop-a
invariant-loop-a l = IsLeaving l.vertices (ends_of l.arcs) l.from l.before l.reached l.a-index l.cut
