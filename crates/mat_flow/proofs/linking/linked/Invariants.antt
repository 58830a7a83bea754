use Rattle.mat_flow.proofs.Common.{◌-◌, length, starts_in, IsLinkTable}
use Rattle.mat_flow.proofs.linking.linked.Given as goal

abbrev pub invariant-loop-before : goal.invariant-loop-before
invariant-loop-before l = IsLinkTable l.graph.vertices l.graph.arcs l.sources l.targets l.before.items

abbrev pub decreases-loop-before : goal.decreases-loop-before
decreases-loop-before l = length l.before.items - starts_in l.before.items
