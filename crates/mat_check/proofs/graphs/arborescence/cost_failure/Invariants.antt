use Rattle.mat_check.proofs.Common.{◌≡◌, map, None, all_below, first_failure, cost_clause}
use Rattle.mat_check.proofs.graphs.arborescence.cost_failure.Given as goal

-- no clause of an arc so far fails
abbrev pub invariant-loop-e : goal.invariant-loop-e
invariant-loop-e l = first_failure (map (cost_clause l.costs l.first l.second) (all_below l.e)) ≡ None
