-- Disjoint spanning arborescences, and vertex sets that are entered too seldom (Edmonds 1973; Schrijver, chapter 53).
use Rattle.std.specs.Prelude.{◌≡◌, ℕ, ◌<◌, List, length}
use Rattle.std.specs.List.{All}
use Rattle.mat_sets.specs.Families.{AreDisjoint}
use Rattle.mat_sets.specs.Graphs.{entering, IsRootFree, IsSpanningArborescence}
use Rattle.mat_sets.specs.Sets.{all_below}

-- k spanning arborescences from the root that share no arc
pub record AreDisjointArborescences (vertices arcs : ℕ) (ends : ℕ → ℕ × ℕ) (root k : ℕ) (trees : List (List ℕ)) : Type 0 where
  pub many : length trees ≡ k
  pub each : All (IsSpanningArborescence vertices arcs ends root) trees
  pub disjoint : AreDisjoint trees

-- a vertex set that is not empty, does not hold the root, and is entered by fewer than k arcs
pub record IsSeldomEntered (vertices arcs : ℕ) (ends : ℕ → ℕ × ℕ) (root k : ℕ) (cut : List ℕ) : Type 0 where
  pub root_free : IsRootFree vertices root cut
  pub few : length (entering ends (all_below arcs) cut) < k
