-- A note is written whole where the sink does not fail, and else the count of faults rose.
use Rattle.mat_judge.proofs.Common.{ℕ, ◌≤◌, List, Option, Result, Ok, Err, OnOk, OnErr, Rose, Appended, AppendedProperPrefix, AppendedPrefix-whole, AppendedPrefix-proper}
use Rattle.mat_judge.specs.Notes.{IsNoted}

pub noted : {E : Type 0} (result : Result (Unit {0}) E) (note : List ℕ) (old : Option (List ℕ)) (before : ℕ) (new : Option (List ℕ)) (now : ℕ)
    → before ≤ now → OnOk result (Appended old note new) → OnErr result (AppendedProperPrefix old note new) → OnErr result (Rose before now)
    → IsNoted note old before new now
noted (Ok done) note old before new now grows all part rose = record {
  grows = grows;
  prefix = AppendedPrefix-whole old new note all;
  whole = λ spared. all;
}
noted (Err error) note old before new now grows all part rose = record {
  grows = grows;
  prefix = AppendedPrefix-proper old new note part;
  whole = λ spared. absurd (spared rose);
}
