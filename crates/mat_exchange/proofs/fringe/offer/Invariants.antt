use Rattle.mat_exchange.proofs.Common.{◌≡◌, ◌&&◌, ◌-◌, length, ltb, bits_of, is_member, weight_at, IsOffered, gain_at}
use Rattle.mat_exchange.proofs.fringe.offer.Given as goal

abbrev pub invariant-loop-z : goal.invariant-loop-z
invariant-loop-z l = record {
  length : length l.fringe.gains ≡ length l.fn.fringe.gains;
  offered : IsOffered (λ v. (is_member v (bits_of l.candidates) && is_member v l.others) && ltb v l.from) (gain_at l.inside (weight_at l.weights) l.x)
      l.fn.fringe.members (weight_at l.fn.fringe.gains) l.fringe.members (weight_at l.fringe.gains);
}

abbrev pub decreases-loop-z : goal.decreases-loop-z
decreases-loop-z l = length l.weights - l.from
