use Rattle.mat_cuts.proofs.Common.{◌<◌, ◌≤ℤ◌, ℕ, cost_at}
use Rattle.mat_cuts.proofs.checking.is_within.Given as goal

abbrev pub invariant-loop-a : goal.invariant-loop-a
invariant-loop-a l = (a : ℕ) → a < l.a → cost_at l.paid a ≤ℤ cost_at l.costs a
