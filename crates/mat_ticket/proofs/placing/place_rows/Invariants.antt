-- The rows are those that are left and a rest, and the rest is placed.
use Rattle.mat_ticket.proofs.Common.{◌≡◌, ◌++◌, List, length, ArePlaced}
use Rattle.mat_ticket.proofs.placing.place_rows.Given as goal

abbrev pub invariant-loop-row : goal.invariant-loop-row
invariant-loop-row g l =
    record {
      parts : (rest : List _) × (l.fn.rows.items ≡ l.rows.items ++ rest);
      placed : ArePlaced (length l.rows.items) l.tickets l.fn.rows.items l.fn.slots l.slots;
    }

abbrev pub decreases-loop-row : goal.decreases-loop-row
decreases-loop-row g l = length l.rows.items
