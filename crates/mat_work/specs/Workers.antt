-- How many workers may share a job.
use Rattle.std.specs.Prelude.{ℕ, ◌≤◌}

-- the most workers, and so the most threads of a call
abbrev pub most_workers : ℕ
most_workers = 16

-- a number of workers that a call takes: one at least, who is the caller, and at most so many
abbrev pub AreWorkers : ℕ → Type 0
AreWorkers workers = (1 ≤ workers) × (workers ≤ most_workers)
