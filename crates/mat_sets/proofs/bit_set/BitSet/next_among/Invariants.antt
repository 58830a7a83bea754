use Rattle.mat_sets.proofs.BitScan.{IsScanned}
use Rattle.mat_sets.proofs.bit_set.BitSet.next_among.Given as goal

abbrev pub invariant-loop-at : goal.invariant-loop-at
invariant-loop-at l = IsScanned l.words l.self-inside.words.items l.from l.at l.mask
