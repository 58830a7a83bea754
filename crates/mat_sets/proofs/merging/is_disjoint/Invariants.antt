use Rattle.mat_sets.proofs.Common.{◌≡◌, ℕ, ◌<◌, ◌≤◌, [], length, get_or, take, intersection}
use Rattle.mat_sets.proofs.merging.is_disjoint.Given as goal

abbrev pub invariant-loop-x : goal.invariant-loop-x
invariant-loop-x l = record {
  so_far : intersection (take l.x-index l.a) l.b ≡ [];
  inside : l.j ≤ length l.b;
  low : (k i : ℕ) → k < l.j → l.x-index ≤ i → i < length l.a → get_or l.b k 0 < get_or l.a i 0;
}
