-- One row less is left, and it is at the place of its ticket.
use Rattle.mat_ticket.proofs.Common.{◌≡◌, [], ◌∷◌, ◌∙◌, length, slice_index, sym, ap, arith, append-nil}
use Rattle.mat_ticket.proofs.Slots.{placed-none, placed-next, ticket_below, more_rest}
use Rattle.mat_ticket.proofs.placing.place_rows.Goals as goal

pub loop-row-init : goal.loop-row-init
loop-row-init g c = record {
  parts = ([], sym (append-nil c.args.rows.items));
  placed = placed-none c.args.tickets.now c.args.rows.items c.args.slots.now c.requires.count;
}

pub fill-requires : goal.fill-requires
fill-requires g c =
    let init = c.pop.new.self.items in
    let n : c.len.result ≡ length init = c.len.ensures ∙ c.pop.new.self.ok.0 in
    let below = ticket_below (length c.args.slots.now) c.args.tickets.now c.args.rows.items c.loop-row.rows.items init c.loop-row.invariant.parts.0
    c.in-Some.row
    c.loop-row.invariant.parts.1 c.in-Some.ensures.items c.requires.count c.requires.below in
    let same = ap (λ k. slice_index c.args.tickets.now k) n in
    let room = c.loop-row.invariant.placed.count in
    omega arith

pub loop-row-preserved : goal.loop-row-preserved
loop-row-preserved g c =
    let init = c.pop.new.self.items in
    let n : c.len.result ≡ length init = c.len.ensures ∙ c.pop.new.self.ok.0 in
    let parts = c.loop-row.invariant.parts in
    let more = c.in-Some.ensures.items in record {
      parts = (c.in-Some.row ∷ parts.0, more_rest c.args.rows.items c.loop-row.rows.items init parts.0 c.in-Some.row parts.1 more);
      placed = placed-next c.args.tickets.now c.args.rows.items c.loop-row.rows.items init parts.0 c.in-Some.row c.args.slots.now c.loop-row.slots
          c.fill.new.slots
          (slice_index c.args.tickets.now c.len.result) parts.1 more c.requires.count c.requires.below
          (ap (λ k. slice_index c.args.tickets.now k) n) c.fill.ensures
          c.loop-row.invariant.placed;
    }
