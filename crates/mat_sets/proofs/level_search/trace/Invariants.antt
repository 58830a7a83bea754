use Rattle.mat_sets.proofs.Traces.{IsTraceFrom}
use Rattle.mat_sets.proofs.level_search.trace.Given as goal

abbrev pub invariant-loop-at : goal.invariant-loop-at
invariant-loop-at l = IsTraceFrom l.before l.arcs l.last l.at l.vertices.items

abbrev pub decreases-loop-at : goal.decreases-loop-at
decreases-loop-at l = l.at
