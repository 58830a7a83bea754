-- Joining two seats keeps the rule of the word.
use Rattle.mat_ticket.proofs.Common.{arith}
use Rattle.mat_ticket.proofs.WordSteps.{joins}
use Rattle.mat_ticket.proofs.steps.join_other.Goals as goal

pub join_seat-requires : goal.join_seat-requires
join_seat-requires c =
    let seat = c.args.seat.now in
    let words = c.requires.word in (
      c.requires.seat,
      c.requires.other.0,
      c.requires.other.1,
      (omega arith),
      joins c.args.word.now.key seat.id c.args.other.id seat.me.0 c.args.other.me.0,
    )
