use Rattle.mat_arbor.proofs.Common.{◌≡◌, ℕ, ◌<◌, length, take, cost_at, weight_around}
use Rattle.mat_arbor.proofs.held.weights_around.Given as goal

abbrev pub invariant-loop-cut : goal.invariant-loop-cut
invariant-loop-cut l = record {
  long : length l.sums.items ≡ l.vertices;
  sums : (v : ℕ) → v < l.vertices → cost_at l.sums.items v ≡ weight_around (take l.cut-index l.cuts) v;
}
