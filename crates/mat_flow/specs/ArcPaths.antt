-- Paths that share no arc, and vertex sets that few arcs enter (Schrijver, chapter 9).
use Rattle.std.specs.Prelude.{◌≡◌, ℕ, ◌<◌, true, false, List, length}
use Rattle.std.specs.List.{All, concat}
use Rattle.mat_sets.specs.Graphs.{DirectedWalk}
use Rattle.mat_sets.specs.Sets.{is_member, AreDistinct, IsSet, IsSubset}
use Rattle.mat_sets.specs.Graphs.{entering}

-- a directed walk from one vertex to another along live arcs
pub record IsArcPath (ends : ℕ → ℕ × ℕ) (live : List ℕ) (from to : ℕ) (path : List ℕ) : Type 0 where
  pub walk : DirectedWalk ends path from to
  pub inside : IsSubset path live

-- so many paths along live arcs, and no arc twice in all of them together
pub record AreArcPaths (ends : ℕ → ℕ × ℕ) (live : List ℕ) (from to want : ℕ) (paths : List (List ℕ)) : Type 0 where
  pub many : length paths ≡ want
  pub each : All (IsArcPath ends live from to) paths
  pub distinct : AreDistinct (concat paths)

-- a vertex set with `to` and without `from` that fewer than `want` live arcs enter
pub record IsArcCut (vertices : ℕ) (ends : ℕ → ℕ × ℕ) (live : List ℕ) (from to want : ℕ) (cut : List ℕ) : Type 0 where
  pub set : IsSet vertices cut
  pub holds : is_member to cut ≡ true
  pub misses : is_member from cut ≡ false
  pub few : length (entering ends live cut) < want
