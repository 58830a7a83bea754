use Rattle.mat_count.proofs.KeptSets.{AreKept}
use Rattle.mat_count.proofs.full_sets.FullSets.of.Given as goal

abbrev pub invariant-loop-i : goal.invariant-loop-i
invariant-loop-i l = AreKept l.caps l.numbers l.i l.sizes.items
