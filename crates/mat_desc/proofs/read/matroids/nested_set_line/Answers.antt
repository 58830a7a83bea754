use Rattle.mat_desc.proofs.Common.{words_left, naming}
use Rattle.mat_desc.proofs.ElementLaws.{IsSet-elements}
use Rattle.mat_desc.proofs.read.matroids.nested_set_line.Goals as goal

pub crosses-requires-clause-below : goal.crosses-requires-clause-below
crosses-requires-clause-below c =
    rw (c.requires.room, c.in_ok-set.ensures.members)
    (IsSet-elements (naming c.args.names) c.args.count c.requires.named (words_left c.in_ok-cap.words) c.in_ok-bits.bits c.in_ok-bits.bits
    c.in_ok-bits.ensures).below

pub push-requires-clause-below : goal.push-requires-clause-below
push-requires-clause-below c =
    rw (c.requires.room, c.in_ok-set.ensures.members)
    (IsSet-elements (naming c.args.names) c.args.count c.requires.named (words_left c.in_ok-cap.words) c.in_ok-bits.bits c.in_ok-bits.bits
    c.in_ok-bits.ensures).below
