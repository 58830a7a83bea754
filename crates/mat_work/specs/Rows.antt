-- Rows of a job, in the order of their numbers.
use Rattle.std.specs.Prelude.{ℕ, ◌+◌, List, [], ◌∷◌}

-- the first row is right for this number, the next one for the number after it, and so on to the last
abbrev pub StandFrom : {X : Type 0} → (ℕ → X → Type 0) → ℕ → List X → Type 0
StandFrom stands from [] = Unit {0}
StandFrom stands from (row ∷ rows) = stands from row × StandFrom stands (from + 1) rows
