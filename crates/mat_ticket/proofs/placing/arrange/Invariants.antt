-- What stands in a place is the row of a ticket, and the tickets so far have their places filled.
use Rattle.mat_ticket.proofs.Common.{length}
use Rattle.mat_ticket.proofs.Arranging.{IsArranging}
use Rattle.mat_ticket.proofs.placing.arrange.Given as goal

abbrev pub invariant-loop-outputs : goal.invariant-loop-outputs
invariant-loop-outputs g l = IsArranging l.count l.fn.outputs.items l.outputs.items l.slots.items l.tickets.items

abbrev pub decreases-loop-outputs : goal.decreases-loop-outputs
decreases-loop-outputs g l = length l.outputs.items
