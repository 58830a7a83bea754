-- Commands of the program as what their words ask for, and the ranges of their numbers.
use Rattle.std.specs.Coded.{×_prop, Unit-prop, le_prop}
use Rattle.std.specs.Prelude.{ℕ, ◌≤◌}
use Rattle.mat_sets.specs.Limits.{most_elements}
use Rattle.mat_command.specs.declared.command.Command.{Command}
use Rattle.mat_command.specs.declared.command.Command.TheVariants.{About, Sample, Batch, Convert}
use Rattle.mat_command.specs.declared.command.Request as declared
use Rattle.mat_command.specs.declared.command.Request.TheVariants.{Show, Solve, Cuts, Check, Witness, Verify}
use Rattle.mat_solve.specs.Queries.{IsQueryInRange, IsQueryInRange-prop}
use Rattle.mat_command.specs.CommandLines.{Request, show, solve, cuts, check, witness, verify, Task, about, sample, batch, convert}

-- what is asked about a problem
abbrev pub request_of : declared.Request → Request
request_of Show = show
request_of (Solve query) = solve query
request_of Cuts = cuts
request_of (Check certificate) = check certificate.now
request_of (Witness rung certificate) = witness rung certificate.now
request_of (Verify rung certificate shown) = verify rung certificate.now shown.now

-- what a command asks for
abbrev pub task_of : Command → Task
task_of (About file request) = about file.now (request_of request)
task_of (Sample kind size seed) = sample kind size seed
task_of (Batch list) = batch list.now
task_of (Convert file) = convert file.now

-- a number of trees that a request asks for is in range, and the number of a rung is from 0 to 500
abbrev pub IsRequestInRange : Request → Type 0
IsRequestInRange (solve query) = IsQueryInRange query
IsRequestInRange (witness rung certificate) = rung ≤ most_elements
IsRequestInRange (verify rung certificate shown) = rung ≤ most_elements
IsRequestInRange request = Unit {0}

-- the size of a sample is from 1 to 500, and its seed from 1 to 2147483646
abbrev pub IsSampleInRange : (size seed : ℕ) → Type 0
IsSampleInRange size seed = ((1 ≤ size) × (size ≤ most_elements)) × ((1 ≤ seed) × (seed ≤ 2147483646))

-- a number of trees or of a rung that a task asks for is in range, and so are the size and the seed of a sample
abbrev pub IsTaskInRange : Task → Type 0
IsTaskInRange (about file request) = IsRequestInRange request
IsTaskInRange (sample kind size seed) = IsSampleInRange size seed
IsTaskInRange (batch list) = Unit {0}
IsTaskInRange (convert file) = Unit {0}

-- ---- at most one proof of each range

-- there is at most one proof that the numbers of a request are in range
pub IsRequestInRange-prop : (request : Request) → IsProp (IsRequestInRange request)
IsRequestInRange-prop show = Unit-prop
IsRequestInRange-prop (solve query) = IsQueryInRange-prop query
IsRequestInRange-prop cuts = Unit-prop
IsRequestInRange-prop (check certificate) = Unit-prop
IsRequestInRange-prop (witness rung certificate) = le_prop
IsRequestInRange-prop (verify rung certificate shown) = le_prop

-- there is at most one proof that the numbers of a task are in range
pub IsTaskInRange-prop : (task : Task) → IsProp (IsTaskInRange task)
IsTaskInRange-prop (about file request) = IsRequestInRange-prop request
IsTaskInRange-prop (sample kind size seed) = ×_prop (×_prop le_prop le_prop) (×_prop le_prop le_prop)
IsTaskInRange-prop (batch list) = Unit-prop
IsTaskInRange-prop (convert file) = Unit-prop
