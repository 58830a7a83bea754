-- The leaves up to the place that is passed are taken out; each step takes an edge out or passes a vertex.
use Rattle.mat_witness.proofs.Common.{◌+◌, ◌-◌, length}
use Rattle.mat_witness.proofs.LeafPeeling.{IsPeeling}
use Rattle.mat_witness.proofs.parts.forests.leaves_first.Given as goal

abbrev pub invariant-loop-passed : goal.invariant-loop-passed
invariant-loop-passed l = IsPeeling l.vertices l.edges l.set l.sums.degree.items l.sums.sum.items l.pairs.items l.passed l.v

abbrev pub decreases-loop-passed : goal.decreases-loop-passed
decreases-loop-passed l = (length l.set + l.vertices) - (length l.pairs.items + l.passed)
