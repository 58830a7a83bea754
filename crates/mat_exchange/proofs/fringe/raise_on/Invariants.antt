use Rattle.mat_exchange.proofs.Common.{◌≡◌, ◌-◌, ℕ, length, weight_at}
use Rattle.mat_exchange.proofs.Raising.{raised_to}
use Rattle.mat_exchange.proofs.fringe.raise_on.Given as goal

abbrev pub invariant-loop-x : goal.invariant-loop-x
invariant-loop-x l = record {
  length : length l.weights ≡ length l.fn.weights;
  weights : (z : ℕ) → weight_at l.weights z ≡ raised_to (weight_at l.fn.weights) l.members l.step l.from z;
}

abbrev pub decreases-loop-x : goal.decreases-loop-x
decreases-loop-x l = length l.fn.weights - l.from
