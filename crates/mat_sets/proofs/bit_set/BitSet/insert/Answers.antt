use Rattle.mat_sets.proofs.Common.{rules, arith}
use Rattle.mat_sets.proofs.Bits.{bits_of-put}
use Rattle.mat_sets.proofs.bit_set.BitSet.insert.Goals as goal

pub returns-clause-ok : goal.returns-clause-ok
returns-clause-ok c =
    let room = c.in_ok-make_room.ensures.room in
    let e = bits_of-put c.make_room.new.words.items c.args.x c.index_mut.result.now (omega arith) c.index_mut.ensures.value in
    search rules
