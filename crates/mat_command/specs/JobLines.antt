-- Reading a list of jobs line by line: what each step gives, or the number of the first line that is not the needed one.
use Rattle.std.specs.Prelude.{◌≡◌, ℕ, if◌then◌else◌, List, take, Option, Some, None, Result, Ok, Err}
use Rattle.mat_words.specs.Cursors.{LinesLeft}
use Rattle.mat_words.specs.Reading.{line_at, is_closed}
use Rattle.mat_words.specs.Steps.{◌>>=◌}
use Rattle.mat_command.specs.declared.refusal.ListRefusal.{ListRefusal}
use Rattle.mat_command.specs.declared.refusal.ListRefusal.TheVariants.{Line, Memory}
use Rattle.mat_command.specs.JobLists.{Job, IsMislisted, on_line, is_head, is_end, job_of_line}

-- a refusal is the line at which the reading ended, or want of memory, which any reading may meet
abbrev pub Fails : {Y : Type 0} → ListRefusal → Result Y ℕ → Type 0
Fails (Line line) reading = reading ≡ Err line
Fails Memory reading = Unit {0}

-- what a call returned, as seen by `view`, is what the reading gives, unless memory ran out
abbrev pub Gives : {X Y : Type 0} → (X → Y) → Result X ListRefusal → Result Y ℕ → Type 0
Gives view (Ok x) reading = reading ≡ Ok (view x)
Gives view (Err refusal) reading = Fails refusal reading

-- how many words of a line are kept: one more than `job` and any command with its arguments
abbrev pub kept_words : ℕ
kept_words = 7

-- the first words of the next line, and the lines behind it
unfoldable pub words_at : LinesLeft → Result (List (List ℕ) × LinesLeft) ℕ
words_at left = on_line left.line (line_at left) (λ words behind. Ok (take kept_words words, behind))

-- the lines behind the head
unfoldable pub head_at : LinesLeft → Result LinesLeft ℕ
head_at left = do
  line ← words_at left
  if is_head line.0 then Ok line.1 else Err left.line

-- no job, at the end of the text
abbrev pub no_job : LinesLeft → Result (Option (Job × LinesLeft)) ℕ
no_job left = if is_closed left.lines then Ok None else Err left.line

-- the job that a line says, with the lines behind it
abbrev pub some_job : ℕ → Option Job → LinesLeft → Result (Option (Job × LinesLeft)) ℕ
some_job n None behind = Err n
some_job n (Some job) behind = Ok (Some (job, behind))

-- the job on the next line, with the lines behind it, or none where the line is the last of a list
unfoldable pub job_at : LinesLeft → Result (Option (Job × LinesLeft)) ℕ
job_at left = do
  line ← words_at left
  if is_end line.0 then no_job line.1 else some_job left.line (job_of_line line.0) line.1

-- why bytes give no jobs
abbrev pub HasNoJobs : List ℕ → ListRefusal → Type 0
HasNoJobs bytes (Line line) = IsMislisted bytes line
HasNoJobs bytes Memory = Unit {0}
