-- Directed graphs, and the rows that tell quickly where arcs lead (Schrijver, chapter 3).
use Rattle.std.specs.Prelude.{◌≡◌, ℕ, ◌<◌, ◌||◌, ◌==◌, List, length, map}
use Rattle.mat_sets.specs.Graphs.{IsGraph}
use Rattle.mat_sets.specs.Rows.{row_at}
use Rattle.mat_sets.specs.Sets.{is_member}
use Rattle.mat_flow.specs.Paths.{has_arc}

-- a directed graph: its vertices are the numbers below `vertices`, and each arc leads from its tail to its head
pub record DirectedGraph : Type 0 where
  pub vertices : ℕ
  pub arcs : List (ℕ × ℕ)

-- the arcs, each turned round
abbrev pub reversed_arcs : List (ℕ × ℕ) → List (ℕ × ℕ)
reversed_arcs arcs = map (λ arc. (arc.1, arc.0)) arcs

-- the graph with these arcs, each turned round
pub record IsTurned (vertices : ℕ) (arcs : List (ℕ × ℕ)) (back : DirectedGraph) : Type 0 where
  pub same : back.vertices ≡ vertices
  pub arcs_are : back.arcs ≡ reversed_arcs arcs

-- the row of each vertex has the vertex itself and the heads of the arcs that leave it
pub record AreRows (vertices : ℕ) (arcs : List (ℕ × ℕ)) (rows : List (List ℕ)) : Type 0 where
  pub count : length rows ≡ vertices
  pub members : (u v : ℕ) → u < vertices → is_member v (row_at rows u) ≡ (v == u || has_arc arcs u v)

-- the ends of the arcs are vertices, and these are the rows of the graph
pub record IsAdjacency (vertices : ℕ) (arcs : List (ℕ × ℕ)) (rows : List (List ℕ)) : Type 0 where
  pub graph : IsGraph vertices arcs
  pub are_rows : AreRows vertices arcs rows
