-- The seat that is kept holds what the workers so far drew, and with those that are left all shares.
use Rattle.mat_ticket.proofs.Common.{length}
use Rattle.mat_ticket.proofs.JoinedSeats.{IsJoining}
use Rattle.mat_ticket.proofs.joining.join_seats.Given as goal

abbrev pub invariant-loop-team : goal.invariant-loop-team
invariant-loop-team g l = IsJoining l.word.table_id l.word.key l.fn.team.items l.team.items l.outputs.items l.whole.table_id l.whole.me.0 l.all

abbrev pub decreases-loop-team : goal.decreases-loop-team
decreases-loop-team g l = length l.team.items
