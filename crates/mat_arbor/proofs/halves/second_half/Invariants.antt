use Rattle.mat_arbor.proofs.Common.{◌≡◌, ℕ, ◌<◌, length, ◌⊖◌, negated, weight_at}
use Rattle.mat_arbor.proofs.halves.second_half.Given as goal

abbrev pub invariant-loop-a : goal.invariant-loop-a
invariant-loop-a l = record {
  long : length l.all.items ≡ l.a;
  each : (b : ℕ) → b < l.a → weight_at l.all.items b ≡ negated (weight_at l.costs b) ⊖ weight_at l.first b;
}
