use Rattle.mat_sets.proofs.Common.{rules}
use Rattle.mat_sets.proofs.Bits.{bits_of-zeros}
use Rattle.mat_sets.proofs.bit_set.BitSet.with_capacity.Goals as goal

pub returns : goal.returns
returns c = search (rules, bits_of-zeros)
