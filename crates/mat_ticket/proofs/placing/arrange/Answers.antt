-- The rows of one worker more are at their places, and its tickets are behind the other lists.
use Rattle.mat_ticket.proofs.Common.{◌++◌, ◌∷◌, [], ◌∙◌, sym, ap, subst, rules, written_back, ArePlaced}
use Rattle.mat_ticket.proofs.JoinedSeats.{first_removed}
use Rattle.mat_ticket.proofs.Arranging.{IsArranging, arranging-start, arranging-next}
use Rattle.mat_ticket.proofs.placing.arrange.Goals as goal

pub loop-outputs-init : goal.loop-outputs-init
loop-outputs-init g c =
    arranging-start c.args.count c.args.outputs.items c.in_ok-slots.slots.items c.in_ok-tickets.tickets.items c.in_ok-slots.ensures.count
    c.in_ok-slots.ensures.empty
    c.in_ok-tickets.ensures.items c.requires.fit

pub loop-outputs-preserved : goal.loop-outputs-preserved
loop-outputs-preserved g c =
    let a = c.remove-list.result in
    let slots = c.loop-outputs.slots.items in
    let new = c.place_rows.new.slots in
    let rest = c.remove-list.new.self.items in
    let lists = c.push.new.self.items in
    let first = first_removed c.loop-outputs.outputs.items rest a (search rules) c.remove-list.ensures.value c.remove-list.ensures.by_index.2 in
    let placed : ArePlaced 0 a.tickets.items a.rows.items slots new =
    subst (λ ts. ArePlaced 0 ts a.rows.items slots new) c.as_slice.ensures.value
    (subst (λ xs. ArePlaced 0 c.as_slice.result.now a.rows.items xs new) c.as_mut_slice.ensures.value c.place_rows.ensures) in
    let pushed = c.in_ok-push.ensures.items ∙ ap (λ x. c.loop-outputs.tickets.items ++ x ∷ []) c.new.ensures in
    subst (λ xs. IsArranging c.args.count c.args.outputs.items rest xs lists)
    (sym (written_back c.loop-outputs.slots.len new slots (placed.count ∙ sym c.loop-outputs.slots.ok.0)))
    (arranging-next c.args.count c.args.outputs.items c.loop-outputs.outputs.items rest a slots new c.loop-outputs.tickets.items lists first pushed
    placed c.loop-outputs.invariant)
