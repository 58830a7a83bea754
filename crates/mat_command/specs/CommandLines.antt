-- Command lines: a command, the option `--workers N` for a command that takes it, its numbers, and the names of files.
use Rattle.std.specs.Prelude.{ℕ, pos, nat_abs, Bool, true, false, if◌then◌else◌, List, [], ◌∷◌, bytes_eq, codes, Option, Some, None, option_map}
use Rattle.std.specs.Result.{result_ok}
use Rattle.mat_sets.specs.Limits.{most_elements, most_trees}
use Rattle.mat_work.specs.Workers.{most_workers}
use Rattle.mat_words.specs.Numbers.{number_in}
use Rattle.mat_gen.specs.declared.kind.SampleKind.{SampleKind}
use Rattle.mat_gen.specs.declared.kind.SampleKind.TheVariants.{Pair, List as ListKind, Graph, Rooted, Table}
use Rattle.mat_solve.specs.declared.query.Query.{Query}
use Rattle.mat_solve.specs.declared.query.Query.TheVariants.{Best, Intersect, Union, Pack, Cover, Trees, Arborescence, Disjoint, Rainbow, Assign}

-- what is asked about the problem that a file describes
pub data Request : Type 0 where
  -- its canonical text
  show : Request
  -- the answer to this query
  solve : Query → Request
  -- a cheapest spanning arborescence with weighted vertex sets that prove it
  cuts : Request
  -- whether the certificate in the file of this name is right
  check : List ℕ → Request
  -- a witness for the rung with this number of the certificate in the file of this name
  witness : ℕ → List ℕ → Request
  -- whether the witness in the file of the last name shows this rung of the certificate in the file of the first
  verify : ℕ → List ℕ → List ℕ → Request

-- what a command line asks for
pub data Task : Type 0 where
  -- this about the problem that the file of this name describes
  about : List ℕ → Request → Task
  -- the summary of a right answer to the problem of this kind, size and seed
  sample : SampleKind → ℕ → ℕ → Task
  -- the answers to the jobs in the file of this name
  batch : List ℕ → Task
  -- the description in the file of this name, with names for its elements and its vertices
  convert : List ℕ → Task

-- a command line: what it asks for, and how many workers compute it
pub record CommandLine : Type 0 where
  pub workers : ℕ
  pub task : Task

-- a task with the number of its workers
abbrev pub by_workers : ℕ → Task → CommandLine
by_workers n task = record { workers = n; task = task }

infixl 10 ◌>>=◌
-- what is read goes on to the next step; nothing stays nothing
abbrev pub ◌>>=◌ : {A B : Type 0} → Option A → (A → Option B) → Option B
None >>= f = None
(Some x) >>= f = f x

-- ---- a command and its arguments

-- the query of a command that takes a file alone
abbrev pub query_for : List ℕ → Option Query
query_for command =
    if bytes_eq command (codes "best") then Some Best else
    (if bytes_eq command (codes "intersect") then Some Intersect else
    (if bytes_eq command (codes "union") then Some Union else
    (if bytes_eq command (codes "pack") then Some Pack else
    (if bytes_eq command (codes "cover") then Some Cover else
    (if bytes_eq command (codes "arborescence") then Some Arborescence else
    (if bytes_eq command (codes "rainbow") then Some Rainbow else
    (if bytes_eq command (codes "assign") then Some Assign else None)))))))

-- the query of a command that takes a number of trees
abbrev pub query_of_trees : List ℕ → ℕ → Option Query
query_of_trees command k =
    if bytes_eq command (codes "trees") then Some (Trees k) else (if bytes_eq command (codes "disjoint") then Some (Disjoint k) else None)

-- the number from `least` to `most` that a word spells
abbrev pub number_from : ℕ → ℕ → List ℕ → Option ℕ
number_from least most word = option_map nat_abs (result_ok (number_in (pos least) (pos most) word))

-- the number from 1 to this bound that a word spells
abbrev pub number_up_to : ℕ → List ℕ → Option ℕ
number_up_to most word = number_from 1 most word

-- the number of a rung, from 0 to 500, that a word spells
abbrev pub rung_number : List ℕ → Option ℕ
rung_number word = number_from 0 most_elements word

-- the kind of sample that a word names
abbrev pub kind_in : List ℕ → Option SampleKind
kind_in word =
    if bytes_eq word (codes "pair") then Some Pair else
    (if bytes_eq word (codes "list") then Some ListKind else
    (if bytes_eq word (codes "graph") then Some Graph else
    (if bytes_eq word (codes "rooted") then Some Rooted else
    (if bytes_eq word (codes "table") then Some Table else None))))

-- what a command asks about a problem, where it takes its file alone
abbrev pub request_for : List ℕ → Option Request
request_for command =
    if bytes_eq command (codes "show") then Some show else
    (if bytes_eq command (codes "cuts") then Some cuts else option_map solve (query_for command))

-- a command and its one file
abbrev pub with_file : List ℕ → List ℕ → Option Task
with_file command file =
    if bytes_eq command (codes "batch") then Some (batch file) else
    (if bytes_eq command (codes "convert") then Some (convert file) else option_map (about file) (request_for command))

-- a command, a number of trees from 1 to 64 and a file
abbrev pub with_number : List ℕ → List ℕ → List ℕ → Option Task
with_number command number file = do
  k ← number_up_to most_trees number
  option_map (λ query. about file (solve query)) (query_of_trees command k)

-- a command and two arguments
abbrev pub with_two : List ℕ → List ℕ → List ℕ → Option Task
with_two command first second =
    if bytes_eq command (codes "check") then Some (about first (check second)) else with_number command first second

-- the sample that three words ask for: its kind, its size from 1 to 500, and its seed from 1 to 2147483646
abbrev pub sample_for : List ℕ → List ℕ → List ℕ → Option Task
sample_for first second third = do
  kind ← kind_in first
  size ← number_up_to most_elements second
  option_map (sample kind size) (number_up_to 2147483646 third)

-- a witness for a rung of the certificate in a file
abbrev pub witness_of : List ℕ → List ℕ → List ℕ → Option Task
witness_of rung file certificate = option_map (λ k. about file (witness k certificate)) (rung_number rung)

-- a command and three arguments
abbrev pub with_three : List ℕ → List ℕ → List ℕ → List ℕ → Option Task
with_three command first second third =
    if bytes_eq command (codes "sample") then sample_for first second third else
    (if bytes_eq command (codes "witness") then witness_of first second third else None)

-- a command and four arguments
abbrev pub with_four : List ℕ → List ℕ → List ℕ → List ℕ → List ℕ → Option Task
with_four command rung file certificate shown =
    if bytes_eq command (codes "verify") then option_map (λ k. about file (verify k certificate shown)) (rung_number rung) else None

-- what a command with these arguments asks for
abbrev pub task_for : List ℕ → List (List ℕ) → Option Task
task_for command (file ∷ []) = with_file command file
task_for command (first ∷ second ∷ []) = with_two command first second
task_for command (first ∷ second ∷ third ∷ []) = with_three command first second third
task_for command (first ∷ second ∷ third ∷ fourth ∷ []) = with_four command first second third fourth
task_for command arguments = None

-- ---- the option

-- whether the first argument is the option; it never names a file
abbrev pub begins_with_option : List (List ℕ) → Bool
begins_with_option [] = false
begins_with_option (first ∷ others) = bytes_eq first (codes "--workers")

-- whether the command takes the option
abbrev pub takes_workers : Task → Bool
takes_workers (about file show) = false
takes_workers (about file cuts) = false
takes_workers (about file (witness k certificate)) = false
takes_workers (about file (verify k certificate shown)) = false
takes_workers (convert file) = false
takes_workers task = true

-- a command with the option, its number from 1 to 16 and the arguments behind it
abbrev pub with_option : List ℕ → List (List ℕ) → Option CommandLine
with_option command (option ∷ number ∷ arguments) = do
  workers ← number_up_to most_workers number
  task ← task_for command arguments
  if takes_workers task then Some (by_workers workers task) else None
with_option command others = None

-- a command with its arguments alone: one worker
abbrev pub without_option : List ℕ → List (List ℕ) → Option CommandLine
without_option command arguments = option_map (by_workers 1) (task_for command arguments)

-- the command line that the words are, or nothing
unfoldable pub command_line : List (List ℕ) → Option CommandLine
command_line [] = None
command_line (command ∷ others) = if begins_with_option others then with_option command others else without_option command others

-- what the words ask for, however many workers there are, or nothing
abbrev pub asked_by : List (List ℕ) → Option Task
asked_by words = option_map (λ line. line.task) (command_line words)
