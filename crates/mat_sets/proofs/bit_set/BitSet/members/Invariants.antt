use Rattle.mat_sets.proofs.Common.{◌*◌, bits_of, AreMembersBelow}
use Rattle.mat_sets.proofs.bit_set.BitSet.members.Given as goal

abbrev pub invariant-loop-at : goal.invariant-loop-at
invariant-loop-at l = AreMembersBelow (bits_of l.self-inside.words.items) (l.at * 64) l.items.items
