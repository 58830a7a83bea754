use Rattle.mat_branch.proofs.Common.{ends_of}
use Rattle.mat_branch.proofs.FlowTests.{AreServed}
use Rattle.mat_branch.proofs.spare.seldom_entered.Given as goal

abbrev pub invariant-loop-v : goal.invariant-loop-v
invariant-loop-v l = AreServed (ends_of l.graph.arcs) l.live l.root l.k l.v
