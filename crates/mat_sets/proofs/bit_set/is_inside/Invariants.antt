use Rattle.mat_sets.proofs.WordInclusions.{AreInside}
use Rattle.mat_sets.proofs.bit_set.is_inside.Given as goal

abbrev pub invariant-loop-at : goal.invariant-loop-at
invariant-loop-at l = AreInside l.words l.others l.at
