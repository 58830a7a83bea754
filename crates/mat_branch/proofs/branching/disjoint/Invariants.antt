use Rattle.mat_branch.proofs.Common.{length, ends_of}
use Rattle.mat_branch.proofs.Packing.{IsPacking}
use Rattle.mat_branch.proofs.branching.disjoint.Given as goal

abbrev pub invariant-loop-left : goal.invariant-loop-left
invariant-loop-left l = IsPacking l.graph.vertices (length l.graph.arcs) l.root (ends_of l.graph.arcs) l.k l.left l.live l.trees.items

abbrev pub decreases-loop-left : goal.decreases-loop-left
decreases-loop-left l = l.left
