use Rattle.std.proofs.Common.{◌≡◌, length, All}
use Rattle.mat_sets.specs.Graphs.{IsGraph}
use Rattle.mat_cuts.specs.Costs.{IsCost}
use Rattle.mat_calls.proofs.networks.graph_of.Given as goal

abbrev pub invariant-loop-tail : goal.invariant-loop-tail
invariant-loop-tail l = record {
  graph : IsGraph l.vertices l.ends.items;
  ends_long : length l.ends.items ≡ l.tail-index;
  costs_long : length l.costs.items ≡ l.tail-index;
  range : All IsCost l.costs.items;
}
