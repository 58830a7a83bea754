-- Rows that are put at the places of their tickets.
use Rattle.std.specs.Prelude.{◌≡◌, ℕ, ◌≤◌, List, [], ◌∷◌, length, Option, Some, slice_get, ◌⊎◌}
use Rattle.mat_sets.specs.Sets.{AllBelow}
use Rattle.mat_ticket.specs.declared.output.Output.{Output}

-- the place i is filled
pub record HasItem {X : Type 0} (slots : List (Option X)) (i : ℕ) : Type 0 where
  pub row : X
  pub here : slice_get slots i ≡ Some (Some row)

-- the row is that of a ticket
pub record IsRowOf {X : Type 0} (tickets : List ℕ) (rows : List X) (ticket : ℕ) (row : X) : Type 0 where
  pub place : ℕ
  pub ticket_here : slice_get tickets place ≡ Some ticket
  pub row_here : slice_get rows place ≡ Some row

-- the rows from a place on are put at their tickets, and nothing else changes
pub record ArePlaced {X : Type 0} (from : ℕ) (tickets : List ℕ) (rows : List X) (before after : List (Option X)) : Type 0 where
  pub count : length after ≡ length before
  pub origin : (i : ℕ) (row : X) → slice_get after i ≡ Some (Some row) → (slice_get before i ≡ Some (Some row)) ⊎ IsRowOf tickets rows i row
  pub filled : (k t : ℕ) → from ≤ k → slice_get tickets k ≡ Some t → HasItem after t
  pub kept : (i : ℕ) → HasItem before i → HasItem after i

-- a row for each ticket, and the tickets are below the count
pub record FitsRoom {X : Type 0} (count : ℕ) (a : Output X) : Type 0 where
  pub rows_count : length a.rows.items ≡ length a.tickets.items
  pub below : AllBelow count a.tickets.items

-- the row is that of a ticket of some worker
abbrev pub IsRowIn : {X : Type 0} → List (Output X) → ℕ → X → Type 0
IsRowIn [] i row = ⊥
IsRowIn (a ∷ rest) i row = IsRowOf a.tickets.items a.rows.items i row ⊎ IsRowIn rest i row

-- the tickets of one worker
abbrev pub tickets_of : {X : Type 0} → Output X → List ℕ
tickets_of a = a.tickets.items
