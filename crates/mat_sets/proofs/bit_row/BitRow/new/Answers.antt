use Rattle.mat_sets.proofs.Bits.{bits_of-zeros}
use Rattle.mat_sets.proofs.bit_row.BitRow.new.Goals as goal

pub returns : goal.returns
returns c = bits_of-zeros 8
