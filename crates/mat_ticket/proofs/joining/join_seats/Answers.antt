-- Each worker that is taken out of the team adds its seat and its output.
use Rattle.mat_ticket.proofs.Common.{◌++◌, ◌&&◌, [], ◌∷◌, ◌∙◌, sym, ap, rules, output_of}
use Rattle.mat_ticket.proofs.JoinedSeats.{first_removed, joining-start, joining-next}
use Rattle.mat_ticket.proofs.joining.join_seats.Goals as goal

pub loop-team-init : goal.loop-team-init
loop-team-init g c =
    let w = c.remove-whole.result in
    let rest = c.remove-whole.new.self.items in
    joining-start c.args.word.now.table_id c.args.word.now.key c.args.team.items rest w c.push.new.self.items
    (first_removed c.args.team.items rest w c.requires.some c.remove-whole.ensures.value c.remove-whole.ensures.by_index.2)
    (c.in_ok-push.ensures.items ∙ ap (λ l. l ++ output_of w ∷ []) c.requires.empty)
    c.requires.shares c.requires.seated

pub loop-team-preserved-then-all : goal.loop-team-preserved-then-all
loop-team-preserved-then-all g c =
    let now = c.loop-team in
    let w = c.remove-seat.result in
    let rest = c.remove-seat.new.self.items in
    joining-next c.args.word.now.table_id c.args.word.now.key c.args.team.items now.team.items rest w
    now.outputs.items c.push-in-loop-team.new.self.items now.whole.table_id c.join_other.new.seat.table_id now.whole.me.0 c.join_other.new.seat.me.0
    now.all w.finished
    (first_removed now.team.items rest w (search rules) c.remove-seat.ensures.value c.remove-seat.ensures.by_index.2)
    c.in_ok-push-2.ensures.items c.join_other.ensures.0 (ap (λ m. m.0) c.join_other.ensures.1)
    (sym (ap (λ b. b && w.finished) c.if-all.true)) now.invariant

pub returns-clause-drawn : goal.returns-clause-drawn
returns-clause-drawn g c = c.loop-team.invariant.joined c.if-not-all.false
