-- How a call over files in memory ends.
use Rattle.std.specs.Prelude.{◌≡◌, ◌↔◌, ◌⊎◌, ℕ, ◌<◌, ◌≤◌, List, [], length, take, Option, Some, None}
use Rattle.mat_shelf.specs.Files.{FileState}
use Rattle.mat_command.specs.CommandLines.{command_line, asked_by, Task}
use Rattle.mat_judge.specs.Statuses.{status_number}
use Rattle.mat_judge.specs.declared.status.Status.{Status}
use Rattle.mat_judge.specs.declared.status.Status.TheVariants as statuses
use Rattle.mat_top.specs.Outcomes.{IsStatus, IsOutput, CallReaches, IsNote}
use Rattle.mat_call.specs.GivenShelves.{no_text, told_in}

-- what was written into so much room: on Done a whole text, on a fault of writing as much as there is room for of a text that is longer, and
-- else nothing
abbrev pub IsWrittenInto : (List ℕ → Option (List ℕ)) → Option Task → ℕ → List ℕ → Status → Type 0
IsWrittenInto held asked room output statuses.Done = IsOutput held asked output × (length output ≤ room)
IsWrittenInto held asked room output statuses.WriteFault =
    (text : List ℕ) × IsOutput held asked text × (room < length text) × (output ≡ take room text)
IsWrittenInto held asked room output status = output ≡ []

-- A call with these words over these files ended with this status, and wrote this output and this note, for which it had so much room.
-- Memory is the only status without a cause.
pub record IsCallEnded (files : List FileState) (words : List (List ℕ)) (room note_room : ℕ) (status : Status) (output note : List ℕ) : Type 0 where
  -- Usage comes exactly where the words are no command
  pub usage : (status ≡ statuses.Usage) ↔ (command_line words ≡ None)
  -- ReadFault comes only where the call reaches a name that no file has
  pub read_fault : status ≡ statuses.ReadFault
      → (name : List ℕ) × CallReaches (told_in files) (asked_by words) name × (told_in files name ≡ Some no_text)
  -- each status but ReadFault, WriteFault and Memory is that of the outcome, and WriteFault comes only where the outcome is Done
  pub status_of_outcome : IsStatus (told_in files) (asked_by words) status
  -- the output is the answer; where there is no room for all of it, as much of it as there is room for, and then the status is WriteFault;
  -- or nothing
  pub written : IsWrittenInto (told_in files) (asked_by words) room output status
  -- the note is that of the status, as much of it as there is room for
  pub noted : (text : List ℕ) × IsNote (told_in files) (asked_by words) status text × (note ≡ take note_room text)

-- memory ran out before the call began: the number is that of Memory, and nothing is written
abbrev pub IsNotBegun : ℕ → (output note : List ℕ) → Type 0
IsNotBegun number output note = (number ≡ status_number statuses.Memory) × (output ≡ []) × (note ≡ [])

-- the call ended with the status of this number, or memory ran out before it began
abbrev pub IsNumberedEnd : List FileState → List (List ℕ) → (room note_room number : ℕ) → (output note : List ℕ) → Type 0
IsNumberedEnd files words room note_room number output note = IsNotBegun number output note
    ⊎ ((status : Status) × (number ≡ status_number status) × IsCallEnded files words room note_room status output note)
