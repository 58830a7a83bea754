-- What the seat drew is the tickets and then the number that is in hand; each ticket has its row.
use Rattle.mat_ticket.proofs.Common.{◌≡◌, ◌-◌, ◌++◌, [], ◌∷◌, AllBelow, IsRising, AreRowsAt}
use Rattle.mat_ticket.proofs.worker.draw_rows.Given as goal

abbrev pub decreases-loop-ticket : goal.decreases-loop-ticket
decreases-loop-ticket g l = l.count - l.ticket

abbrev pub invariant-loop-ticket : goal.invariant-loop-ticket
invariant-loop-ticket g l =
    record {
      table : l.seat.table_id ≡ l.fn.seat.table_id;
      slots : l.seat.me.1 ≡ l.fn.seat.me.1;
      share : l.seat.me.0.share ≡ l.fn.seat.me.0.share;
      drawn : l.seat.me.0.drawn ≡ l.tickets.items ++ l.ticket ∷ [];
      above : AllBelow l.ticket l.tickets.items;
      rising : IsRising l.tickets.items;
      below : AllBelow l.count l.tickets.items;
      stand : AreRowsAt (g.J.RowJob.stands l.job) l.tickets.items l.rows.items;
    }
