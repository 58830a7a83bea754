use Rattle.mat_flow.proofs.LeadingVertices.{AreLeadingAfter}
use Rattle.mat_flow.proofs.leading.leading_vertices.Given as goal

abbrev pub invariant-loop : goal.invariant-loop
invariant-loop g l = AreLeadingAfter l.count (g.R.SearchGraph.arc l.relation) (g.R.SearchGraph.goal l.relation) l.counter l.leading
