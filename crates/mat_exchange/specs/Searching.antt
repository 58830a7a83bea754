-- What a search along tight arcs finds (Frank 1981; Schrijver, chapter 41).
use Rattle.std.specs.Prelude.{ℕ, Bool, true, false, List}
use Rattle.mat_sets.specs.Walks.{IsWalk}
use Rattle.mat_sets.specs.declared.weight.Weight.{Weight}
use Rattle.mat_laws.specs.TightPaths.{is_heaviest_addable, is_tight, Exchanges, IsTightPath, IsStuckReach}
use Rattle.mat_laws.specs.Slacks.{IsLeastSlackOrNone}
use Rattle.mat_exchange.specs.declared.found.Found.{Found}
use Rattle.mat_exchange.specs.declared.found.Found.TheVariants.{Path, Stuck}

-- a tight path with fewest vertices; or the reached set, which holds no sink, and its least slack or none
abbrev pub IsFound : ℕ → Exchanges → Exchanges → (ℕ → Weight) → (ℕ → Weight) → Found → Type 0
IsFound n first second w1 w2 (Path path) = IsTightPath n first second w1 w2 path.items
IsFound n first second w1 w2 (Stuck reach slack) = IsStuckReach n first second w1 w2 reach × IsLeastSlackOrNone n first second w1 w2 reach slack

-- no walk along tight arcs leads from a source to a sink, whatever its length
abbrev pub HasNoTightPath : ℕ → Exchanges → Exchanges → (ℕ → Weight) → (ℕ → Weight) → Type 0
HasNoTightPath n first second w1 w2 = (path : List ℕ)
    → ¬ IsWalk n (is_tight first second w1 w2) (is_heaviest_addable n first w1) (is_heaviest_addable n second w2) path

-- whether the search is stuck
abbrev pub is_stuck : Found → Bool
is_stuck (Path path) = false
is_stuck (Stuck reach slack) = true
