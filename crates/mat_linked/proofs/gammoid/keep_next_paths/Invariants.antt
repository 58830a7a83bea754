use Rattle.mat_linked.proofs.Common.{intersection}
use Rattle.mat_linked.proofs.FewerPaths.{AreFewerPaths}
use Rattle.mat_linked.proofs.MorePaths.{AreMorePaths}
use Rattle.mat_linked.proofs.gammoid.keep_next_paths.Given as goal

-- the paths to the first members that are gone are taken out
abbrev pub invariant-loop-y : goal.invariant-loop-y
invariant-loop-y l = AreFewerPaths l.graph.vertices l.graph.arcs l.sources l.targets l.base l.y-items l.y-index l.links

-- there are paths to the vertices of the common members and of the first new ones
abbrev pub invariant-loop-x : goal.invariant-loop-x
invariant-loop-x l = AreMorePaths l.graph.vertices l.graph.arcs l.sources l.targets (intersection l.base l.next) l.x-items l.x-index l.linker
