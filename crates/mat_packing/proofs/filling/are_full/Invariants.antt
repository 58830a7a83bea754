use Rattle.mat_packing.proofs.Common.{◌≡◌, ◌<◌, ℕ, length, part_at}
use Rattle.mat_packing.proofs.filling.are_full.Given as goal

abbrev pub invariant-loop-i : goal.invariant-loop-i
invariant-loop-i l = (j : ℕ) → j < l.i → length (part_at l.sets j) ≡ l.size
