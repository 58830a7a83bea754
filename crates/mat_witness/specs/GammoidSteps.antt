-- Words for what the parts of a gammoid read of its graph: rows of the heads of arcs, the arcs that stay open beside a set, and the path to
-- each end.
use Rattle.std.specs.Prelude.{◌≡◌, ℕ, ◌<◌, Bool, not, ◌&&◌, ◌==◌, if◌then◌else◌, List, [], ◌∷◌, length}
use Rattle.mat_sets.specs.Rows.{row_at}
use Rattle.mat_sets.specs.Sets.{is_member}
use Rattle.mat_flow.specs.Paths.{has_arc, last_of}

-- the row of each vertex has the heads of the arcs that leave it
pub record AreArcRows (vertices : ℕ) (arcs : List (ℕ × ℕ)) (rows : List (List ℕ)) : Type 0 where
  pub count : length rows ≡ vertices
  pub members : (u v : ℕ) → u < vertices → is_member v (row_at rows u) ≡ has_arc arcs u v

-- whether v is in the row of u, and u is not closed
abbrev pub is_open_arc : List (List ℕ) → List ℕ → ℕ → ℕ → Bool
is_open_arc rows closed u v = not (is_member u closed) && is_member v (row_at rows u)

-- the first of these paths that ends at v, and no vertex where none does
abbrev pub path_to : List (List ℕ) → ℕ → List ℕ
path_to [] v = []
path_to (path ∷ paths) v = if v == last_of path then path else path_to paths v
