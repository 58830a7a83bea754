-- How the program ends.
use Rattle.std.specs.Prelude.{◌≡◌, ◌≢◌, ◌↔◌, ◌⊎◌, ℕ, List, Option, Some, None}
use Rattle.mat_shelf.specs.Faults.{Rose}
use Rattle.mat_shelf.specs.Writing.{Appended, AppendedProperPrefix}
use Rattle.mat_command.specs.CommandLines.{command_line, asked_by, Task}
use Rattle.mat_judge.specs.Notes.{IsNoted}
use Rattle.mat_judge.specs.Statuses.{status_number}
use Rattle.mat_judge.specs.declared.status.Status.{Status}
use Rattle.mat_judge.specs.declared.status.Status.TheVariants as statuses
use Rattle.mat_top.specs.Outcomes.{Tells, IsStatus, IsOutcome, IsWritten, CallReaches, IsNote}
use Rattle.mat_report.specs.Pictures.{is_picture}
use Rattle.mat_report.specs.Reports.{Saying, check_of, IsReportWritten}
use Rattle.mat_report.specs.TellsInWords.{tells_in_words}
use Rattle.mat_program.specs.Tasks.{ProgramTask, print, tell, draw, call}
use Rattle.mat_program.specs.Traces.{ShelfTrace, SinkTrace, shelf_trace, sink_trace}

-- a text was printed: whole on Done, and on a fault of writing, for which the count of the output rose, a proper prefix of it
abbrev pub IsPrinted : List ℕ → SinkTrace → Status → Type 0
IsPrinted text out statuses.Done = Appended out.written_before text out.written_after
IsPrinted text out statuses.WriteFault =
    AppendedProperPrefix out.written_before text out.written_after × Rose out.faults_before out.faults_after
IsPrinted text out status = ⊥

-- what the top call and a report promise of what is asked for, with the shelf, the output and the notes
pub record IsEnded (asked : Option Task) (shelf : ShelfTrace) (out notes : SinkTrace) (status : Status) : Type 0 where
  -- faults have a cause: a count that rose
  pub read_fault : status ≡ statuses.ReadFault
      → (name : List ℕ) × CallReaches shelf.held asked name × Rose (shelf.faults_before name) (shelf.faults_after name)
  pub write_fault : status ≡ statuses.WriteFault → Rose out.faults_before out.faults_after
  -- where the files are told, the status is that of the outcome
  pub status_of_outcome : Tells shelf.held asked → IsStatus shelf.held asked status
  -- the note of the status is written, or a prefix of it where the sink fails
  pub noted : (note : List ℕ) × IsNote shelf.held asked status note
      × IsNoted note notes.written_before notes.faults_before notes.written_after notes.faults_after
  -- where the files are told and no count rose, the outcome is reached, or memory ran out
  pub complete : Tells shelf.held asked
      → ((name : List ℕ) → CallReaches shelf.held asked name → ¬ (Rose (shelf.faults_before name) (shelf.faults_after name)))
      → ¬ (Rose out.faults_before out.faults_after) → IsOutcome shelf.held asked status ⊎ (status ≡ statuses.Memory)

-- the top call ended by these words
pub record IsCalled (words : List (List ℕ)) (shelf : ShelfTrace) (out notes : SinkTrace) (status : Status) : Type 0 where
  -- Usage comes exactly where the words are no command
  pub usage : (status ≡ statuses.Usage) ↔ (command_line words ≡ None)
  pub ended : IsEnded (asked_by words) shelf out notes status
  -- the answer is written whole, or a proper prefix of it, or nothing
  pub written : IsWritten shelf.held (asked_by words) out.written_before out.written_after status

-- a report ended on the answer of the certificate of the second name to the problem of the first
pub record IsReported (says : Saying) (description certificate : List ℕ) (shelf : ShelfTrace) (out notes : SinkTrace) (status : Status) : Type 0 where
  -- two names are always a command
  pub usage : status ≢ statuses.Usage
  pub ended : IsEnded (Some (check_of description certificate)) shelf out notes status
  -- the text on the answer is written whole, or a proper prefix of it, or nothing
  pub written : IsReportWritten says shelf.held description certificate out.written_before out.written_after status

-- the program did what is asked for: a text is printed without a note
abbrev pub IsPerformed : ProgramTask → ShelfTrace → (out notes : SinkTrace) → Status → Type 0
IsPerformed (print text) shelf out notes status =
    IsPrinted text out status × (notes.written_after ≡ notes.written_before)
IsPerformed (tell description certificate) shelf out notes status = IsReported tells_in_words description certificate shelf out notes status
IsPerformed (draw description certificate) shelf out notes status = IsReported is_picture description certificate shelf out notes status
IsPerformed (call words) shelf out notes status = IsCalled words shelf out notes status

-- the program ended with the number of the status of what it did
pub record IsEndedBy (asked : ProgramTask) (shelf : ShelfTrace) (out notes : SinkTrace) (number : ℕ) : Type 0 where
  pub status : Status
  pub numbered : number ≡ status_number status
  pub performed : IsPerformed asked shelf out notes status

-- the program ended with this number over real files and streams: nothing is told of what they held before and after, and each count began at 0
pub record IsEndedOverStreams (asked : ProgramTask) (number : ℕ) : Type 0 where
  pub file_faults : List ℕ → ℕ
  pub out_faults : ℕ
  pub note_faults : ℕ
  pub ended : IsEndedBy asked (shelf_trace (λ name. None) (λ name. 0) file_faults) (sink_trace None 0 None out_faults)
      (sink_trace None 0 None note_faults) number
