-- Gammoids: elements are vertices of a directed graph, and disjoint paths from the sources lead to those of an independent set
-- (Schrijver, chapter 39).
use Rattle.std.specs.Prelude.{◌≡◌, ℕ, suc, ◌<◌, ◌^◌, Bool, true, false, ◌&&◌, ◌==◌, List, [], ◌∷◌, ◌++◌, length, map, slice_index_or}
use Rattle.mat_sets.specs.Sets.{is_member, union, IsSet, AllBelow, AreDistinct}
use Rattle.mat_sets.specs.SetTests.{is_set, are_distinct}
use Rattle.mat_sets.specs.Search.{some_below, some_list}
use Rattle.mat_sets.specs.Graphs.{IsGraph}
use Rattle.mat_flow.specs.Paths.{has_arc, first_of, last_of, AreDisjointPaths}

-- whether a list of vertices is a path
abbrev pub is_path : List (ℕ × ℕ) → List ℕ → Bool
is_path arcs [] = false
is_path arcs (v ∷ []) = true
is_path arcs (v ∷ w ∷ rest) = has_arc arcs v w && is_path arcs (w ∷ rest)

-- whether some list of at most `most` numbers below n passes; a path on which no vertex stands twice has at most as many as there are vertices
abbrev pub some_list_up_to : ℕ → ℕ → (List ℕ → Bool) → Bool
some_list_up_to most n test = some_below (suc most) (λ k. some_list k n test)

-- whether there are disjoint paths from sources, one to each of the vertices in `ends`, on which none of the vertices in `taken` stands
unfoldable pub has_paths_to : ℕ → List (ℕ × ℕ) → List ℕ → List ℕ → List ℕ → Bool
has_paths_to vertices arcs sources taken [] = true
has_paths_to vertices arcs sources taken (end ∷ ends) = some_list_up_to vertices vertices (λ path.
    is_path arcs path && is_member (first_of path) sources && (last_of path == end)
    && are_distinct (path ++ taken) && has_paths_to vertices arcs sources (path ++ taken) ends)

-- the vertices of the elements
abbrev pub vertices_of : List ℕ → List ℕ → List ℕ
vertices_of targets X = map (λ e. slice_index_or targets e 0) X

-- the same as a set
abbrev pub set_of_vertices : List ℕ → List ℕ → List ℕ
set_of_vertices targets X = union (vertices_of targets X) []

-- whether X is independent in the gammoid whose element e is the vertex `targets[e]`: disjoint paths lead from the sources to the
-- vertices of X, one to each
abbrev pub is_gammoid : ℕ → List (ℕ × ℕ) → List ℕ → List ℕ → List ℕ → Bool
is_gammoid vertices arcs sources targets X = is_set (length targets) X && has_paths_to vertices arcs sources [] (vertices_of targets X)

-- the same in words, where the sources are vertices of the graph: as many disjoint paths as X has members, the first to the vertex of
-- the first member, and so on
pub record IsLinked (arcs : List (ℕ × ℕ)) (sources targets X : List ℕ) : Type 0 where
  pub set : IsSet (length targets) X
  pub paths : List (List ℕ)
  pub disjoint : AreDisjointPaths arcs sources (vertices_of targets X) paths
  pub ends : map last_of paths ≡ vertices_of targets X

-- a graph, its sources, and the vertex of each element
pub record LinkedVertices : Type 0 where
  pub vertices : ℕ
  pub arcs : List (ℕ × ℕ)
  pub sources : List ℕ
  pub targets : List ℕ

-- the arcs join vertices, the sources are a set of vertices, the elements are different vertices, and there are fewer than 2^32 of them
pub record IsGammoid (vertices : ℕ) (arcs : List (ℕ × ℕ)) (sources targets : List ℕ) : Type 0 where
  pub graph : IsGraph vertices arcs
  pub sources_inside : IsSet vertices sources
  pub targets_inside : AllBelow vertices targets
  pub distinct : AreDistinct targets
  pub few : length targets < 2 ^ 32
