use Rattle.mat_linked.proofs.LinkedRuns.{IsLinkedRun}
use Rattle.mat_linked.proofs.gammoid.link_along.Given as goal

-- there are paths to the vertices of what got in
abbrev pub invariant-loop-x : goal.invariant-loop-x
invariant-loop-x l = IsLinkedRun l.graph.vertices l.graph.arcs l.sources l.targets l.order l.x-index l.set l.links
