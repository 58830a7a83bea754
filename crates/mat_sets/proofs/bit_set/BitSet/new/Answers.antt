use Rattle.mat_sets.proofs.Bits.{bits_of-zeros}
use Rattle.mat_sets.proofs.bit_set.BitSet.new.Goals as goal

pub returns : goal.returns
returns c = rw c.new.ensures.items (bits_of-zeros 0)
