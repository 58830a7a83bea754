use Rattle.mat_cuts.proofs.Common.{◌≡◌, ◌<◌, ℕ, length, take, ends_of, cost_at, weight_on}
use Rattle.mat_cuts.proofs.checking.paid_costs.Given as goal

abbrev pub invariant-loop-cut : goal.invariant-loop-cut
invariant-loop-cut l = record {
  long : length l.paid.items ≡ length l.arcs;
  each : (a : ℕ) → a < length l.arcs → cost_at l.paid.items a ≡ weight_on (ends_of l.arcs) (take l.cut-index l.cuts) a;
}
