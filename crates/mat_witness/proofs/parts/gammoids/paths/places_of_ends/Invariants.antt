-- Each of the ends so far has its place.
use Rattle.mat_witness.proofs.Common.{◌≡◌, ℕ, ◌<◌, length, get_or}
use Rattle.mat_witness.proofs.parts.gammoids.paths.places_of_ends.Given as goal

abbrev pub invariant-loop-i : goal.invariant-loop-i
invariant-loop-i l = record {
  long : length l.places.items ≡ l.size;
  places : (k : ℕ) → k < l.i → get_or l.places.items (get_or l.ends k 0) 0 ≡ k;
}
