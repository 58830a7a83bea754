use Rattle.mat_flow.proofs.Common.{length, ends_of}
use Rattle.mat_flow.proofs.ArcFlows.{HoldsPaths}
use Rattle.mat_flow.proofs.arc_flow.arc_paths.Given as goal

abbrev pub invariant-loop : goal.invariant-loop
invariant-loop l = HoldsPaths (length l.graph.arcs) (ends_of l.graph.arcs) l.live l.from l.to l.before.items l.counter
