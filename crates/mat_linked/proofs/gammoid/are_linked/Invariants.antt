use Rattle.mat_linked.proofs.Common.{take}
use Rattle.mat_linked.proofs.LinkedRuns.{IsLinkedRun}
use Rattle.mat_linked.proofs.gammoid.are_linked.Given as goal

-- there are paths to the vertices of the first elements
abbrev pub invariant-loop-x : goal.invariant-loop-x
invariant-loop-x l =
    IsLinkedRun l.graph.vertices l.graph.arcs l.sources l.targets l.elements l.x-index (take l.x-index l.elements) l.links
