use Rattle.mat_sets.proofs.Common.{◌≡◌, length}
use Rattle.mat_sets.proofs.Bits.{AreCleared}
use Rattle.mat_sets.proofs.bit_set.clear_all.Given as goal

abbrev pub invariant-loop-at : goal.invariant-loop-at
invariant-loop-at l = record {
  length : length l.words ≡ length l.fn.words;
  words : AreCleared l.fn.words l.others l.at l.words;
}
