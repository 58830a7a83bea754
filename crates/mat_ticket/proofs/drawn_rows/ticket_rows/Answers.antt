-- The shares, seats and rows that the workers have after their work are those that joining and placing ask for.
use Rattle.mat_ticket.proofs.Common.{◌≡◌, ℕ, ◌<◌, map, ◌∙◌, sym, subst, multiplicity, IsSeated, FitsRoom, tickets_of}
use Rattle.std.specs.List.{AllByRecursion}
use Rattle.std.proofs.lemmas.Result.{IfOk-weaker}
use Rattle.mat_ticket.proofs.JoinedSeats.{each_once}
use Rattle.mat_ticket.proofs.Teams.{same_shares}
use Rattle.mat_ticket.proofs.AllTickets.{all_seated, all_fit, rows_in_order, tickets_of_all}
use Rattle.mat_ticket.proofs.drawn_rows.ticket_rows.Goals as goal

pub join_seats-requires-clause-shares : goal.join_seats-requires-clause-shares
join_seats-requires-clause-shares g c =
    same_shares c.in_ok-team.team.items c.in_ok-done.done.items c.in_ok-done.ensures.count c.in_ok-done.ensures.shares ∙ c.in_ok-team.ensures.shares

pub join_seats-requires-clause-seated : goal.join_seats-requires-clause-seated
join_seats-requires-clause-seated g c =
    subst (λ k. AllByRecursion (IsSeated c.in_ok-table.table.shared.table_id k) c.in_ok-done.done.items) (sym c.in_ok-table.ensures.table.1)
    (all_seated c.in_ok-table.table.shared.table_id (g.J.RowJob.stands c.args.job.now) c.args.count c.in_ok-done.done.items c.in_ok-done.ensures.done)

pub arrange-requires-clause-once : goal.arrange-requires-clause-once
arrange-requires-clause-once g c =
    subst (λ k. (x : ℕ) → x < k → multiplicity x (map tickets_of c.in_ok-outputs.outputs.items) ≡ 1) c.in_ok-table.ensures.table.1
    (each_once c.in_ok-table.table.shared.key c.close.ensures.0 c.in_ok-outputs.whole.me.0.drawn c.in_ok-outputs.outputs.items
    c.in_ok-outputs.ensures.drawn c.close.ensures.1)

pub arrange-requires-clause-fit : goal.arrange-requires-clause-fit
arrange-requires-clause-fit g c =
    subst (AllByRecursion (FitsRoom c.args.count)) (sym c.in_ok-outputs.ensures.outputs)
    (all_fit c.in_ok-table.table.shared.table_id (g.J.RowJob.stands c.args.job.now) c.args.count c.in_ok-done.done.items c.in_ok-done.ensures.done
    c.in_ok-outputs.ensures.finished)

pub returns-clause-rows : goal.returns-clause-rows
returns-clause-rows g c =
    IfOk-weaker c.arrange.result _ _
    (λ d h. rows_in_order c.in_ok-table.table.shared.table_id (g.J.RowJob.stands c.args.job.now) c.args.count c.in_ok-done.done.items
    c.in_ok-outputs.outputs.items d.rows.items
    c.in_ok-done.ensures.done c.in_ok-outputs.ensures.finished c.in_ok-outputs.ensures.outputs h)
    c.arrange.ensures.rows

pub returns-clause-tickets : goal.returns-clause-tickets
returns-clause-tickets g c =
    IfOk-weaker c.arrange.result _ _
    (λ d h. tickets_of_all c.in_ok-table.table.shared.table_id (g.J.RowJob.stands c.args.job.now) c.args.count c.args.workers
    c.in_ok-done.done.items c.in_ok-outputs.outputs.items
    d.tickets.items c.in_ok-done.ensures.done c.in_ok-outputs.ensures.finished c.in_ok-outputs.ensures.outputs
    (c.in_ok-done.ensures.count ∙ c.in_ok-team.ensures.count)
    (subst (λ k. (x : ℕ) → x < k → multiplicity x (map tickets_of c.in_ok-outputs.outputs.items) ≡ 1) c.in_ok-table.ensures.table.1
    (each_once c.in_ok-table.table.shared.key c.close.ensures.0 c.in_ok-outputs.whole.me.0.drawn c.in_ok-outputs.outputs.items
    c.in_ok-outputs.ensures.drawn c.close.ensures.1)) h)
    c.arrange.ensures.tickets
