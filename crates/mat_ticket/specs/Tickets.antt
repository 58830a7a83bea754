-- The tickets of all workers.
use Rattle.std.specs.Prelude.{◌≡◌, ℕ, ◌<◌, List, length}
use Rattle.std.specs.List.{AllByRecursion}
use Rattle.mat_sets.specs.Families.{AllRising, multiplicity}
use Rattle.mat_sets.specs.Sets.{AllBelow}

-- the most rows of a job whose numbers are drawn
abbrev pub most_tickets : ℕ
most_tickets = 20000

-- one list for each worker, each rising; together they hold the numbers below the count, each once and no other
pub record AreTickets (count workers : ℕ) (lists : List (List ℕ)) : Type 0 where
  pub one_each : length lists ≡ workers
  pub rising : AllRising lists
  pub below : AllByRecursion (AllBelow count) lists
  pub once : (x : ℕ) → x < count → multiplicity x lists ≡ 1
