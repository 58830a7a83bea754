use Rattle.mat_sets.proofs.Common.{arith, take, ◌≡◌, take_all}
use Rattle.mat_sets.proofs.Bits.{bits_of-longer}
use Rattle.mat_sets.proofs.bit_set.make_room.Goals as goal

pub returns-in_ok-resize-clause-same : goal.returns-in_ok-resize-clause-same
returns-in_ok-resize-clause-same c =
    let words = c.args.words.now.items in
    let e : take c.args.len words ≡ words = take_all c.args.len words (omega arith) in
    rw (c.in_ok-resize.ensures.items, e) (bits_of-longer words _)
