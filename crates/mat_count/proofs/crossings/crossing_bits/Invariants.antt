use Rattle.mat_count.proofs.Common.{◌≡◌, ℕ, ◌<◌, false, [], get_or, crosses}
use Rattle.mat_count.proofs.crossings.crossing_bits.Given as goal

abbrev pub invariant-loop-i : goal.invariant-loop-i
invariant-loop-i l = (k : ℕ) → k < l.i → crosses (get_or l.sets k []) l.next ≡ false
