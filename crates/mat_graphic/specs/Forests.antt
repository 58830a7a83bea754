-- Forests and components of a graph, and the graph whose forests are the independent sets of a matroid (Schrijver, chapters 1 and 39).
use Rattle.std.specs.Prelude.{◌≢◌, ℕ, zero, suc, ◌≤◌, Bool, false, not, ◌&&◌, ◌||◌, ◌==◌, List, [], ◌∷◌, length, map, slice_index_or}
use Rattle.mat_sets.specs.Sets.{AreDistinct, IsSubset}
use Rattle.mat_sets.specs.SetTests.{are_distinct, is_set}
use Rattle.mat_sets.specs.Search.{some_below, those_below}
use Rattle.mat_sets.specs.Graphs.{Walk}

-- ---- searches

-- whether some member of X passes
abbrev pub some_member : List ℕ → (ℕ → Bool) → Bool
some_member [] test = false
some_member (x ∷ X) test = test x || some_member X test

-- whether some list of k members of X passes
unfoldable pub some_list_of : ℕ → List ℕ → (List ℕ → Bool) → Bool
some_list_of zero X test = test []
some_list_of (suc k) X test = some_member X (λ x. some_list_of k X (λ xs. test (x ∷ xs)))

-- whether some list of different members of X passes: such a list has at most as many items as X
unfoldable pub some_distinct_list : List ℕ → (List ℕ → Bool) → Bool
some_distinct_list X test = some_below (suc (length X)) (λ k. some_list_of k X (λ xs. are_distinct xs && test xs))

-- ---- forests

-- whether a walk along these edges, one after the other and each in either direction, leads from v to w
abbrev pub is_walk : (ℕ → ℕ × ℕ) → List ℕ → ℕ → ℕ → Bool
is_walk ends [] v w = v == w
is_walk ends (e ∷ edges) v w =
    ((ends e).0 == v && is_walk ends edges (ends e).1 w) || ((ends e).1 == v && is_walk ends edges (ends e).0 w)

-- whether a walk along these edges, of which there is at least one, ends where it begins: at an end of the first edge
abbrev pub is_closed_walk : (ℕ → ℕ × ℕ) → List ℕ → Bool
is_closed_walk ends [] = false
is_closed_walk ends (e ∷ edges) = is_walk ends (e ∷ edges) (ends e).0 (ends e).0 || is_walk ends (e ∷ edges) (ends e).1 (ends e).1

-- whether X is a forest: no list of different members of X is a closed walk (Schrijver, chapter 39)
unfoldable pub is_forest : (ℕ → ℕ × ℕ) → List ℕ → Bool
is_forest ends X = not (some_distinct_list X (λ edges. is_closed_walk ends edges))

-- the same in words: no walk along a non-empty list of different members of X ends where it begins
pub record IsForest (ends : ℕ → ℕ × ℕ) (X : List ℕ) : Type 0 where
  pub never_closed : (e : ℕ) (edges : List ℕ) (v w : ℕ) → AreDistinct (e ∷ edges) → IsSubset (e ∷ edges) X
      → Walk ends (e ∷ edges) v w → v ≢ w

-- the graphic matroid on n edges: the sets of edges that are forests (Schrijver, chapter 39)
abbrev pub is_graphic : ℕ → (ℕ → ℕ × ℕ) → List ℕ → Bool
is_graphic n ends X = is_set n X && is_forest ends X

-- ---- components

-- whether a walk along different members of X leads from v to w
unfoldable pub is_reached : (ℕ → ℕ × ℕ) → List ℕ → ℕ → ℕ → Bool
is_reached ends X v w = some_distinct_list X (λ edges. is_walk ends edges v w)

-- the least vertex that is reached from v: the first of those up to v, as v itself is reached
unfoldable pub least_reached : (ℕ → ℕ × ℕ) → List ℕ → ℕ → ℕ
least_reached ends X v = slice_index_or (those_below (suc v) (λ w. is_reached ends X v w)) 0 v

-- the same in words: a walk along members of X reaches r from v, and none reaches a lower vertex
pub record IsLeastReached (ends : ℕ → ℕ × ℕ) (X : List ℕ) (v r : ℕ) : Type 0 where
  pub along : List ℕ
  pub inside : IsSubset along X
  pub walk : Walk ends along v r
  pub least : (edges : List ℕ) (w : ℕ) → IsSubset edges X → Walk ends edges v w → r ≤ w

-- the vertices that are their own least ones
abbrev pub roots_of : ℕ → (ℕ → ℕ) → List ℕ
roots_of vertices least = those_below vertices (λ v. least v == v)

-- the vertices whose least vertex is r
abbrev pub class_of : ℕ → (ℕ → ℕ) → ℕ → List ℕ
class_of vertices least r = those_below vertices (λ v. least v == r)

-- the components that the members of X make of these vertices, each as a set of vertices, in the order of their least vertices
abbrev pub components_of : ℕ → (ℕ → ℕ × ℕ) → List ℕ → List (List ℕ)
components_of vertices ends X = map (class_of vertices (least_reached ends X)) (roots_of vertices (least_reached ends X))

-- how many components the members of X make of these vertices: the vertices from which no lower one is reached
unfoldable pub number_of_components : ℕ → (ℕ → ℕ × ℕ) → List ℕ → ℕ
number_of_components vertices ends X = length (roots_of vertices (least_reached ends X))
