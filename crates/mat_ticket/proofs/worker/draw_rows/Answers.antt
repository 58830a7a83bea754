-- The number that was drawn becomes a ticket with its row, and the next one is above it.
use Rattle.mat_ticket.proofs.Common.{◌<◌, ◌∙◌, sym, ap, subst, arith, AllBelow, IsRising}
use Rattle.mat_ticket.proofs.Drawing.{may_draw, draws_above, next_drawn, next_above, IsRising-push, AllBelow-push, AreRowsAt-pushed}
use Rattle.mat_ticket.proofs.worker.draw_rows.Goals as goal

pub draw-ticket-requires-in-loop-ticket-clause-share : goal.draw-ticket-requires-in-loop-ticket-clause-share
draw-ticket-requires-in-loop-ticket-clause-share g c =
    let now = c.loop-ticket.invariant in
    let share = now.share in
    let some = c.requires.fresh.1 in
    let below : c.loop-ticket.ticket < c.args.count = omega (arith, c.loop-ticket-test.true, c.from.ensures) in
    may_draw c.args.word.now.key c.args.count c.loop-ticket.seat.me.0.drawn c.loop-ticket.tickets.items c.loop-ticket.ticket
    c.loop-ticket.seat.me.0.share
    c.requires.word.1 now.drawn now.below below (omega arith)

pub loop-ticket-smaller : goal.loop-ticket-smaller
loop-ticket-smaller g c =
    let more = draws_above c.loop-ticket.tickets.items c.loop-ticket.seat.me.0.drawn c.loop-ticket.ticket _ c.loop-ticket.invariant.drawn
    c.draw-ticket-in-loop-ticket.ensures.above in
    omega (arith, c.loop-ticket-test.true, c.from.ensures, more)

pub loop-ticket-preserved : goal.loop-ticket-preserved
loop-ticket-preserved g c =
    let now = c.loop-ticket.invariant in
    let ts = c.loop-ticket.tickets.items in
    let t = c.loop-ticket.ticket in
    let drawn = c.loop-ticket.seat.me.0.drawn in
    let draw = c.draw-ticket-in-loop-ticket.ensures in
    let pushed = c.in_ok-push-2.ensures.items in
    let below : t < c.args.count = omega (arith, c.loop-ticket-test.true, c.from.ensures) in
    record {
      table = draw.seat ∙ now.table;
      slots = ap (λ m. m.1) draw.drawn ∙ now.slots;
      share = ap (λ m. m.0.share) draw.drawn ∙ now.share;
      drawn = next_drawn ts drawn t _ now.drawn _ _ pushed (ap (λ m. m.0.drawn) draw.drawn);
      above = next_above ts drawn t _ now.drawn _ pushed draw.above;
      rising = subst IsRising (sym pushed) (IsRising-push ts t now.rising now.above);
      below = subst (AllBelow c.args.count) (sym pushed) (AllBelow-push c.args.count ts t now.below below);
      stand = AreRowsAt-pushed (g.J.RowJob.stands c.args.job.now) ts _ c.loop-ticket.rows.items _ t _ pushed c.in_ok-push.ensures.items now.stand
          c.in_ok-row.ensures;
    }
