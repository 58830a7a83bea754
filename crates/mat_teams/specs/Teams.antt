-- Teams of people: sets of the numbers below how many there are.
use Rattle.std.specs.Prelude.{ℕ, List, All}
use Rattle.mat_sets.specs.Sets.{IsSet}
use Rattle.mat_split.specs.declared.ladder.Rung.{Rung}

-- each of the sets is a team: a set of numbers below n, where n is how many people there are
abbrev pub AreTeams : ℕ → List (List ℕ) → Type 0
AreTeams n sets = All (IsSet n) sets

-- the set of each rung is a team
abbrev pub AreTeamsOfRungs : ℕ → List Rung → Type 0
AreTeamsOfRungs n rungs = All (λ rung. IsSet n rung.set) rungs
