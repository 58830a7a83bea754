-- The line graph of the live arcs: its vertices are the arcs, and from each arc one leads on to each live arc that leaves its head. Paths in it
-- that share no vertex are paths of the graph that share no arc (Schrijver, chapter 9).
use Rattle.std.specs.Prelude.{◌≡◌, ℕ, ◌<◌, Bool, false, not, ◌&&◌, ◌||◌, ◌==◌, nat_lt, List, [], ◌∷◌, ◌++◌, length, Option, Some, None}
use Rattle.std.specs.List.{filter}
use Rattle.mat_sets.specs.Search.{those_below}
use Rattle.mat_sets.specs.Sets.{all_below, is_member}
use Rattle.mat_sets.specs.Rows.{row_at}
use Rattle.mat_flow.specs.LinkTables.{entry_at}

-- the live arcs that leave a vertex
unfoldable pub arcs_from : (ℕ → ℕ × ℕ) → List ℕ → ℕ → List ℕ
arcs_from ends live v = filter (λ a. (ends a).0 == v) live

-- the arcs whose head is a vertex
unfoldable pub arcs_to : (ℕ → ℕ × ℕ) → ℕ → ℕ → List ℕ
arcs_to ends count v = those_below count (λ a. (ends a).1 == v)

-- the pairs of an arc with each of these
abbrev pub pairs_with : ℕ → List ℕ → List (ℕ × ℕ)
pairs_with a [] = []
pairs_with a (b ∷ bs) = (a, b) ∷ pairs_with a bs

-- from each of these arcs to each live arc that leaves its head
abbrev pub line_rows : (ℕ → ℕ × ℕ) → List ℕ → List ℕ → List (ℕ × ℕ)
line_rows ends live [] = []
line_rows ends live (a ∷ arcs) = pairs_with a (arcs_from ends live (ends a).1) ++ line_rows ends live arcs

-- the line graph, where there are so many arcs
unfoldable pub line_arcs : (ℕ → ℕ × ℕ) → ℕ → List ℕ → List (ℕ × ℕ)
line_arcs ends count live = line_rows ends live (all_below count)

-- for each vertex the live arcs that leave it
pub record AreLeaving (vertices : ℕ) (ends : ℕ → ℕ × ℕ) (live : List ℕ) (rows : List (List ℕ)) : Type 0 where
  pub count : length rows ≡ vertices
  pub members : (v a : ℕ) → v < vertices → is_member a (row_at rows v) ≡ (is_member a live && (ends a).0 == v)

-- whether there is such an arc, and x is its head
abbrev pub is_head_there : (ℕ → ℕ × ℕ) → ℕ → Option ℕ → Bool
is_head_there ends x None = false
is_head_there ends x (Some u) = x == (ends u).1

-- whether x is the head of an arc that is before one of these
abbrev pub is_passed : (ℕ → ℕ × ℕ) → List (Option ℕ) → List ℕ → ℕ → Bool
is_passed ends before [] x = false
is_passed ends before (v ∷ vs) x = is_head_there ends x (entry_at before v) || is_passed ends before vs x

-- the vertices but the one that paths start from and those that are passed
pub record IsLeftOut (vertices : ℕ) (ends : ℕ → ℕ × ℕ) (from : ℕ) (before : List (Option ℕ)) (reached cut : List ℕ) : Type 0 where
  pub members : (x : ℕ) → is_member x cut ≡ (nat_lt x vertices && not (x == from || is_passed ends before reached x))
