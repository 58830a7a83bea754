-- What a call left at a shelf and at a sink.
use Rattle.std.specs.Prelude.{ℕ, List, Option}

-- what the files hold, where that is told, and the count of faults of each name before and after the call
pub record ShelfTrace : Type 0 where
  pub held : List ℕ → Option (List ℕ)
  pub faults_before : List ℕ → ℕ
  pub faults_after : List ℕ → ℕ

-- what was written, where that is told, and the count of faults, before and after the call
pub record SinkTrace : Type 0 where
  pub written_before : Option (List ℕ)
  pub faults_before : ℕ
  pub written_after : Option (List ℕ)
  pub faults_after : ℕ

abbrev pub shelf_trace : (List ℕ → Option (List ℕ)) → (List ℕ → ℕ) → (List ℕ → ℕ) → ShelfTrace
shelf_trace held before after = record { held = held; faults_before = before; faults_after = after }

abbrev pub sink_trace : Option (List ℕ) → ℕ → Option (List ℕ) → ℕ → SinkTrace
sink_trace old before new after = record { written_before = old; faults_before = before; written_after = new; faults_after = after }
