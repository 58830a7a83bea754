-- A draw keeps the rule of the word.
use Rattle.mat_ticket.proofs.Common.{arith}
use Rattle.mat_ticket.proofs.WordSteps.{draws}
use Rattle.mat_ticket.proofs.steps.draw.Goals as goal

pub fetch_add-requires : goal.fetch_add-requires
fetch_add-requires c =
    let seat = c.args.seat.now in
    let words = c.requires.word.0 in
    (c.requires.seat, (omega arith), draws c.args.word.now.key _ seat.id seat.me.0 seat.me.1 c.requires.word.1 c.requires.share)
