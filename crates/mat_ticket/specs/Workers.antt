-- Workers before and after they drew.
use Rattle.std.specs.Prelude.{◌≡◌, ℕ, ◌<◌, true, []}
use Rattle.atomic_table.specs.Seated.{TableId}
use Rattle.mat_ticket.specs.declared.output.Output.{Output}
use Rattle.mat_ticket.specs.declared.worker.Worker.{Worker}
use Rattle.mat_ticket.specs.Outputs.{IsOutput, IsLast}

-- the share of a worker's seat
abbrev pub share_of : {X : Type 0} → Worker X → ℕ
share_of w = w.seat.me.0.share

-- what a worker computed
abbrev pub output_of : {X : Type 0} → Worker X → Output X
output_of w = record { tickets = w.tickets; rows = w.rows }

-- it has a share, and drew nothing yet
pub record IsFresh {X : Type 0} (table : TableId) (w : Worker X) : Type 0 where
  pub seat : w.seat.table_id ≡ table
  pub slots : w.seat.me.1 ≡ []
  pub drawn : w.seat.me.0.drawn ≡ []
  pub share : 0 < w.seat.me.0.share
  pub tickets : w.tickets.items ≡ []
  pub rows : w.rows.items ≡ []

-- where it went on until a number was not below the count, its rows stand at its tickets, which are what it drew but for the last number
pub record IsDone {X : Type 0} (table : TableId) (stands : ℕ → X → Type 0) (count : ℕ) (w : Worker X) : Type 0 where
  pub seat : w.seat.table_id ≡ table
  pub slots : w.seat.me.1 ≡ []
  pub output : w.finished ≡ true → IsOutput stands count w.tickets.items w.rows.items × IsLast count w.tickets.items w.seat.me.0.drawn
