-- Lists of jobs: `jobs 1`, up to 32 lines `job` with the words of a solving command, and `end`.
use Rattle.std.specs.Prelude.{◌≡◌, ℕ, zero, suc, ◌≤◌, Bool, false, ◌&&◌, if◌then◌else◌, List, [], ◌∷◌, length, bytes_eq, codes}
use Rattle.std.specs.Prelude.{Option, Some, None, Result, Ok, Err}
use Rattle.mat_desc.specs.Limits.{description_limit}
use Rattle.mat_words.specs.Cursors.{WordsLeft, LinesLeft}
use Rattle.mat_words.specs.Lines.{lines_of}
use Rattle.mat_words.specs.Reading.{Fault, line_at, is_closed}
use Rattle.mat_solve.specs.declared.query.Query.{Query}
use Rattle.mat_command.specs.CommandLines.{Task, about, solve, task_for, begins_with_option, ◌>>=◌}

-- a job: a query about the problem that the file of this name describes
pub record Job : Type 0 where
  pub query : Query
  pub file : List ℕ

-- the job that a task is, where it is a query about a problem
abbrev pub job_in : Task → Option Job
job_in (about file (solve query)) = Some (record { query = query; file = file })
job_in task = None

-- the job that the words of a solving command without the option say
abbrev pub job_of_command : List (List ℕ) → Option Job
job_of_command [] = None
job_of_command (command ∷ arguments) = if begins_with_option arguments then None else (task_for command arguments >>= job_in)

-- the job that the words of a line say
abbrev pub job_of_line : List (List ℕ) → Option Job
job_of_line [] = None
job_of_line (keyword ∷ words) = if bytes_eq keyword (codes "job") then job_of_command words else None

-- whether the words of a line are the one word `end`
abbrev pub is_end : List (List ℕ) → Bool
is_end (word ∷ []) = bytes_eq word (codes "end")
is_end words = false

-- whether they are `jobs 1`
abbrev pub is_head : List (List ℕ) → Bool
is_head (word ∷ version ∷ []) = bytes_eq word (codes "jobs") && bytes_eq version (codes "1")
is_head words = false

-- ---- the lines; where one of them is not the needed one, its number

-- a line is needed: what its words and the lines behind it give, or its number where it has no byte 10, is not well spaced or is empty
abbrev pub on_line : {A : Type 0} → ℕ → Result (WordsLeft × LinesLeft) Fault → (List (List ℕ) → LinesLeft → Result A ℕ)
    → Result A ℕ
on_line n (Ok line) next = next line.0.words line.1
on_line n (Err fault) next = Err n

-- no byte is left behind the last line
abbrev pub ended : LinesLeft → Result (List Job) ℕ
ended left = if is_closed left.lines then Ok [] else Err left.line

-- a job before other jobs
abbrev pub with_job : Job → Result (List Job) ℕ → Result (List Job) ℕ
with_job job (Ok jobs) = Ok (job ∷ jobs)
with_job job (Err n) = Err n

-- a line that says a job, with the jobs that are read behind it
abbrev pub job_before : ℕ → Option Job → Result (List Job) ℕ → Result (List Job) ℕ
job_before n None jobs = Err n
job_before n (Some job) jobs = with_job job jobs

-- the jobs on the lines that are left, of which at most so many may stand there
unfoldable pub jobs_at : ℕ → LinesLeft → Result (List Job) ℕ
jobs_at zero left = on_line left.line (line_at left) (λ words behind. if is_end words then ended behind else Err left.line)
jobs_at (suc more) left = on_line left.line (line_at left)
    (λ words behind. if is_end words then ended behind else job_before left.line (job_of_line words) (jobs_at more behind))

-- the most jobs of a list
abbrev pub most_jobs : ℕ
most_jobs = 32

-- the jobs of a list, or the number of the first line that is not the needed one
unfoldable pub jobs_of : List ℕ → Result (List Job) ℕ
jobs_of bytes = on_line 1 (line_at (record { line = 1; lines = lines_of bytes }))
    (λ words behind. if is_head words then jobs_at most_jobs behind else Err 1)

-- the bytes, no more than a description may have, are a list of these jobs
pub record IsListed (bytes : List ℕ) (jobs : List Job) : Type 0 where
  pub within : length bytes ≤ description_limit
  pub listed : jobs_of bytes ≡ Ok jobs

-- the bytes are no list of jobs: this line is the first that is not the needed one
pub record IsMislisted (bytes : List ℕ) (line : ℕ) : Type 0 where
  pub within : length bytes ≤ description_limit
  pub first : jobs_of bytes ≡ Err line
