-- Sinks in memory.
use Rattle.std.specs.Prelude.{ℕ, ◌+◌, ◌-◌, ◌<◌, ◌≤◌, ◌⊎◌, min, nat_le, if◌then◌else◌}
use Rattle.std.specs.Prelude.{List, ◌++◌, take, length, Contains, Option, Some, None}
use Rattle.mat_shelf.specs.Faults.{next_count}

-- A sink in memory: what it took, the most bytes that it takes in all and in a call, the numbers
-- of the calls that fail, how many calls there were, and how many failed.
pub record MemSinkState : Type 0 where
  pub taken : List ℕ
  pub room : ℕ
  pub step : ℕ
  pub fail : List ℕ
  pub calls : ℕ
  pub faults : ℕ

-- a sink that never fails: what it was given, where that is told, and the most bytes that it tells
pub record SureSinkState : Type 0 where
  pub told : Option (List ℕ)
  pub room : ℕ

-- the next call of the sink fails with this piece
abbrev pub FailsToTake : MemSinkState → List ℕ → Type 0
FailsToTake s piece = Contains s.fail (next_count s.calls) ⊎ ((0 < length piece) × (s.room ≤ length s.taken))

-- how many bytes of the piece the sink takes
abbrev pub taken_count : MemSinkState → List ℕ → ℕ
taken_count s piece = min (min s.step (length piece)) (s.room - length s.taken)

-- the sink after it took the first c bytes of the piece
abbrev pub after_put : MemSinkState → List ℕ → ℕ → MemSinkState
after_put s piece c = record s { taken = s.taken ++ take c piece; calls = next_count s.calls }

-- the sink after a call that failed
abbrev pub after_failed_put : MemSinkState → MemSinkState
after_failed_put s = record s { calls = next_count s.calls; faults = next_count s.faults }

-- what is told after a piece more: it is told while no more than room bytes were given in all
abbrev pub told_after : Option (List ℕ) → ℕ → List ℕ → Option (List ℕ)
told_after None room piece = None
told_after (Some bytes) room piece = if nat_le (length bytes + length piece) room then Some (bytes ++ piece) else None

-- the sink after a piece was put
abbrev pub after_sure_put : SureSinkState → List ℕ → SureSinkState
after_sure_put s piece = record s { told = told_after s.told s.room piece }
