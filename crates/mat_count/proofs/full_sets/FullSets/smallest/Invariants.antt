use Rattle.mat_count.proofs.KeptSets.{IsLooking}
use Rattle.mat_count.proofs.full_sets.FullSets.smallest.Given as goal

abbrev pub invariant-loop-place : goal.invariant-loop-place
invariant-loop-place l = IsLooking l.self.sizes.items l.places l.place-index l.smallest
