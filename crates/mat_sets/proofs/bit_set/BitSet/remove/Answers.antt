use Rattle.mat_sets.proofs.Common.{rules, arith}
use Rattle.mat_sets.proofs.Bits.{bits_of-cut, bits_of-cut_past}
use Rattle.mat_sets.proofs.bit_set.BitSet.remove.Goals as goal

pub returns-then-at-len : goal.returns-then-at-len
returns-then-at-len c =
    let e = bits_of-cut c.self.inside.words.items c.args.x c.index_mut.result.now (omega arith) c.index_mut.ensures.value in
    search rules

pub returns-else-at-len : goal.returns-else-at-len
returns-else-at-len c = let e = bits_of-cut_past c.self.inside.words.items c.args.x (omega arith) in search rules
