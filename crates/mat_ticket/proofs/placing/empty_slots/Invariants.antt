-- As many empty places as turns.
use Rattle.mat_ticket.proofs.Common.{◌≡◌, None, length}
use Rattle.std.specs.List.{AllByRecursion}
use Rattle.mat_ticket.proofs.placing.empty_slots.Given as goal

abbrev pub invariant-loop : goal.invariant-loop
invariant-loop g l =
    record {
      count : length l.slots.items ≡ l.counter;
      empty : AllByRecursion (λ s. s ≡ None) l.slots.items;
    }
