use Rattle.mat_branch.proofs.Common.{ends_of}
use Rattle.mat_branch.proofs.Choices.{IsScanned}
use Rattle.mat_branch.proofs.growing.next_arc.Given as goal

abbrev pub invariant-loop-a : goal.invariant-loop-a
invariant-loop-a l = IsScanned l.graph.vertices l.root (ends_of l.graph.arcs) l.live l.reached l.m l.a-index l.refused
