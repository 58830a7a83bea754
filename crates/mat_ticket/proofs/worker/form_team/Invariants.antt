-- One share less is left with each worker more, and all of them together are 16.
use Rattle.mat_ticket.proofs.Common.{◌≡◌, ◌+◌, [], length, share_of, IsFresh}
use Rattle.std.specs.List.{AllByRecursion, sum_by}
use Rattle.mat_ticket.proofs.worker.form_team.Given as goal

abbrev pub invariant-loop : goal.invariant-loop
invariant-loop g l =
    record {
      table : l.seat.table_id ≡ l.word.table_id;
      slots : l.seat.me.1 ≡ [];
      drawn : l.seat.me.0.drawn ≡ [];
      formed : length l.team.items + 1 ≡ l.counter;
      share : l.seat.me.0.share + length l.team.items ≡ 16;
      shares : sum_by share_of l.team.items + l.seat.me.0.share ≡ 16;
      fresh : AllByRecursion (IsFresh l.word.table_id) l.team.items;
    }
