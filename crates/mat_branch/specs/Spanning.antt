-- Whether arcs are a spanning arborescence, as a test: the root reaches all vertices where each other non-empty vertex set is entered, since
-- no arc enters the set of those that it does not reach (Schrijver, chapters 6 and 52).
use Rattle.std.specs.Prelude.{ℕ, suc, Bool, not, ◌&&◌, ◌==◌, nat_lt, List, length}
use Rattle.mat_sets.specs.Graphs.{entering}
use Rattle.mat_sets.specs.Search.{some_subset}
use Rattle.mat_sets.specs.Sets.{all_below, is_member}

-- whether a vertex set is not empty, does not hold the root, and fewer than k of these arcs enter it
abbrev pub is_seldom_entered : ℕ → (ℕ → ℕ × ℕ) → List ℕ → ℕ → List ℕ → Bool
is_seldom_entered root ends live k cut = (nat_lt 0 (length cut) && not (is_member root cut)) && nat_lt (length (entering ends live cut)) k

-- whether there is such a vertex set
unfoldable pub some_seldom_entered : ℕ → ℕ → (ℕ → ℕ × ℕ) → List ℕ → ℕ → Bool
some_seldom_entered vertices root ends live k = some_subset (all_below vertices) (is_seldom_entered root ends live k)

-- whether arcs are a spanning arborescence: one fewer than there are vertices, and each non-empty vertex set without the root is entered
abbrev pub is_spanning_arborescence : ℕ → (ℕ → ℕ × ℕ) → ℕ → List ℕ → Bool
is_spanning_arborescence vertices ends root tree = (suc (length tree) == vertices) && not (some_seldom_entered vertices root ends tree 1)
