use Rattle.mat_exchange.proofs.Common.{◌≡◌, ◌≤◌, ◌<◌, ◌&&◌, ◌-◌, ℕ, false, bits_of, is_member, is_same, weight_at}
use Rattle.mat_exchange.proofs.tight_arcs.next_equal.Given as goal

abbrev pub invariant-loop-v : goal.invariant-loop-v
invariant-loop-v l = record {
  later : l.from ≤ l.at;
  none : (x : ℕ) → l.from ≤ x → x < l.at → ((is_member x (bits_of l.candidates) && is_member x l.among) && is_same (weight_at l.weights l.u)
      (weight_at l.weights x)) ≡ false;
}

abbrev pub decreases-loop-v : goal.decreases-loop-v
decreases-loop-v l = 500 - l.at
