-- The ticket word, and what holds between any two steps on it (Herlihy and Shavit, chapter 1: work drawn from a shared counter).
use Rattle.std.specs.Prelude.{◌≡◌, ℕ, ◌+◌, ◌-◌, ◌≤◌, List, [], ◌∷◌, ◌++◌}
use Rattle.std.specs.List.{sum_by}
use mathlib.Core.Option.{some}
use lib.ListN.{get_elem?}
use Rattle.atomic_table.specs.Table.{State, Me, Step}
use Rattle.mat_sets.specs.Sets.{AllBelow}
use Rattle.mat_ticket.specs.declared.ticket_word.TicketView.{TicketView}
use Rattle.mat_ticket.specs.Sums.{sum_below, beyond}

-- what a seat holds: this share, and these numbers
abbrev pub ticket_view : ℕ → List ℕ → TicketView
ticket_view share drawn = record { share = share; drawn = drawn }

-- a seat holds at most as many numbers that are not below the count as its share is; one without a share, which is spent, holds none
pub record IsWithinShare (count : ℕ) (v : TicketView) : Type 0 where
  pub share : sum_by (beyond count) v.drawn ≤ v.share
  pub spent : v.share ≡ 0 → v.drawn ≡ []

-- the word is the next number, and the shares add up to 16. However numbers are weighed, those that the seats hold weigh as much as those
-- below the next one: so they are these, each once
pub record IsTicketWord (count : ℕ) (s : State (Unit {0}) TicketView) : Type 0 where
  pub next : ℕ
  pub word : s.words ≡ next ∷ []
  pub shares : sum_by (λ v. v.share) s.views ≡ 16
  pub numbers : (h : ℕ → ℕ) → sum_by (λ v. sum_by h v.drawn) s.views ≡ sum_below h next
  pub within : (seat : ℕ) (v : TicketView) → get_elem? s.views seat ≡ some v → IsWithinShare count v

-- the seat takes the number that it found, which is above all that it drew before
abbrev pub IsDraw : Step (Unit {0}) → Me (Unit {0}) TicketView → ℕ → Me (Unit {0}) TicketView → Type 0
IsDraw s me found after = (after ≡ (ticket_view me.0.share (me.0.drawn ++ found ∷ []), me.1)) × AllBelow found me.0.drawn

-- what is left of a seat that gave one share away
abbrev pub less_one_share : TicketView → TicketView
less_one_share v = ticket_view (v.share - 1) v.drawn

-- what a new seat holds
abbrev pub one_share : TicketView → TicketView
one_share v = ticket_view 1 []

-- what two seats hold together
abbrev pub joined_view : TicketView → TicketView → TicketView
joined_view v w = ticket_view (v.share + w.share) (v.drawn ++ w.drawn)

-- what is left of a seat that was joined to another
abbrev pub spent_view : TicketView
spent_view = ticket_view 0 []
