-- The edges before this are counted.
use Rattle.mat_check.proofs.Common.{not, ends_of, stays, IsCounted}
use Rattle.mat_check.proofs.graphs.trees.crossing_count.Given as goal

abbrev pub invariant-loop-e : goal.invariant-loop-e
invariant-loop-e l = IsCounted (λ e. not (stays (ends_of l.edges) l.classes e)) l.e l.count
