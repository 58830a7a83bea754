-- Splitting one share off keeps the rule of the word.
use Rattle.mat_ticket.proofs.Common.{arith}
use Rattle.mat_ticket.proofs.WordSteps.{splits}
use Rattle.mat_ticket.proofs.steps.split_share.Goals as goal

pub split_seat-requires : goal.split_seat-requires
split_seat-requires c =
    let seat = c.args.seat.now in
    let words = c.requires.word in
    (c.requires.seat, (omega arith), splits c.args.word.now.key seat.id seat.me.0 c.requires.share.0 c.requires.share.1)
