use Rattle.mat_branch.proofs.Common.{length, ends_of}
use Rattle.mat_branch.proofs.Choices.{IsGrowing}
use Rattle.mat_branch.proofs.growing.grow_tree.Given as goal

abbrev pub invariant-loop : goal.invariant-loop
invariant-loop l = IsGrowing l.graph.vertices (length l.graph.arcs) l.root (ends_of l.graph.arcs) l.fn.live l.m l.counter l.live l.reached l.tree l.refused
