-- Who has all shares holds what was drawn.
use Rattle.mat_ticket.proofs.WordSteps.{closes}
use Rattle.mat_ticket.proofs.steps.close.Goals as goal

pub returns : goal.returns
returns c = closes c.args.table.shared.key _ _ c.args.seat.id c.args.seat.me.0 c.requires.share c.close_with.ensures.values.2
