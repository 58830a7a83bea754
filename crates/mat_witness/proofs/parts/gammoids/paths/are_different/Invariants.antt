-- The items so far are different, and they are those that were seen.
use Rattle.mat_witness.proofs.Common.{◌≡◌, ℕ, take, is_member, AreDistinct}
use Rattle.mat_witness.proofs.parts.gammoids.paths.are_different.Given as goal

abbrev pub invariant-loop-x : goal.invariant-loop-x
invariant-loop-x l = record {
  distinct : AreDistinct (take l.x-index l.items);
  seen : (v : ℕ) → is_member v l.seen ≡ is_member v (take l.x-index l.items);
}
