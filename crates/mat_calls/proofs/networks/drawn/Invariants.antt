use Rattle.std.proofs.Common.{◌≡◌, ◌<◌, ◌^◌, length}
use Rattle.mat_calls.proofs.networks.drawn.Given as goal

abbrev pub invariant-loop : goal.invariant-loop
invariant-loop l = record {
  small : l.state < 2 ^ 31;
  long : length l.arcs.items ≡ l.counter;
}
