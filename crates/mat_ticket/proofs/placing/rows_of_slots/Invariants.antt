-- The places before are taken out in order, and those from here on are as they were.
use Rattle.mat_ticket.proofs.Arranging.{IsEmptying}
use Rattle.mat_ticket.proofs.placing.rows_of_slots.Given as goal

abbrev pub invariant-loop-i : goal.invariant-loop-i
invariant-loop-i g l = IsEmptying l.fn.slots l.slots l.rows.items l.i
