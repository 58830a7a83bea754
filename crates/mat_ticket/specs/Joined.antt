-- Workers whose seats are joined.
use Rattle.std.specs.Prelude.{◌≡◌, ℕ, ◌<◌, ◌≤◌, true, List, []}
use Rattle.std.specs.List.{sum_by}
use Rattle.atomic_table.specs.Seated.{TableId}
use Rattle.mat_ticket.specs.declared.output.Output.{Output}
use Rattle.mat_ticket.specs.declared.worker.Worker.{Worker}
use Rattle.mat_ticket.specs.Sums.{beyond}
use Rattle.mat_ticket.specs.Outputs.{IsLast}

-- the weights of the tickets of one worker, added up
abbrev pub tickets_sum : {X : Type 0} → (ℕ → ℕ) → Output X → ℕ
tickets_sum h a = sum_by h a.tickets.items

-- a worker whose seat can be joined
pub record IsSeated {X : Type 0} (table : TableId) (count : ℕ) (w : Worker X) : Type 0 where
  pub seat : w.seat.table_id ≡ table
  pub slots : w.seat.me.1 ≡ []
  pub last : w.finished ≡ true → IsLast count w.tickets.items w.seat.me.0.drawn

-- it went on until a number was not below the count
abbrev pub HasFinished : {X : Type 0} → Worker X → Type 0
HasFinished w = w.finished ≡ true

-- below the count, what was drawn are the tickets, and a number that is not below the count was drawn
pub record AreJoined {X : Type 0} (count : ℕ) (drawn : List ℕ) (outputs : List (Output X)) : Type 0 where
  pub past : 0 < sum_by (beyond count) drawn
  pub weights : (h : ℕ → ℕ) → ((x : ℕ) → count ≤ x → h x ≡ 0) → sum_by h drawn ≡ sum_by (tickets_sum h) outputs
