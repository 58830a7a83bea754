-- Paths of a directed graph, disjoint paths, and separators (Schrijver, chapter 9). A graph is the list of its arcs, tail and head of each.
use Rattle.std.specs.Prelude.{◌≡◌, ℕ, suc, Bool, true, false, ◌&&◌, ◌||◌, ◌==◌, List, [], ◌∷◌, length, map}
use Rattle.std.specs.List.{All, concat}
use Rattle.mat_sets.specs.Sets.{is_member, IsRising, AreDistinct}
use Rattle.mat_sets.specs.Families.{AreDisjoint}

-- whether an arc leads from u to v
abbrev pub has_arc : List (ℕ × ℕ) → ℕ → ℕ → Bool
has_arc [] u v = false
has_arc (arc ∷ arcs) u v = (arc.0 == u && arc.1 == v) || has_arc arcs u v

-- a path: a list of vertices that is not empty, each joined to the next by an arc
abbrev pub IsPath : List (ℕ × ℕ) → List ℕ → Type 0
IsPath arcs [] = ⊥
IsPath arcs (v ∷ []) = Unit {0}
IsPath arcs (v ∷ w ∷ rest) = (has_arc arcs v w ≡ true) × IsPath arcs (w ∷ rest)

-- the first vertex of a path
abbrev pub first_of : List ℕ → ℕ
first_of [] = 0
first_of (v ∷ rest) = v

-- the last vertex of a path
abbrev pub last_of : List ℕ → ℕ
last_of [] = 0
last_of (v ∷ []) = v
last_of (v ∷ w ∷ rest) = last_of (w ∷ rest)

-- a path from a source to a target
pub record IsPathBetween (arcs : List (ℕ × ℕ)) (sources targets path : List ℕ) : Type 0 where
  pub joined : IsPath arcs path
  pub starts : is_member (first_of path) sources ≡ true
  pub ends : is_member (last_of path) targets ≡ true

-- disjoint paths from sources to targets: no vertex stands twice in all of them together
pub record AreDisjointPaths (arcs : List (ℕ × ℕ)) (sources targets : List ℕ) (paths : List (List ℕ)) : Type 0 where
  pub each : All (IsPathBetween arcs sources targets) paths
  pub distinct : AreDistinct (concat paths)

-- paths from sources to targets of which no two share a vertex; one path may meet a vertex twice
pub record ArePathsApart (arcs : List (ℕ × ℕ)) (sources targets : List ℕ) (paths : List (List ℕ)) : Type 0 where
  pub each : All (IsPathBetween arcs sources targets) paths
  pub apart : AreDisjoint paths

-- a separator: a rising list of vertices such that each path from a source to a target meets one of them
pub record IsSeparator (arcs : List (ℕ × ℕ)) (sources targets separator : List ℕ) : Type 0 where
  pub rises : IsRising separator
  pub meets : (path : List ℕ) → IsPathBetween arcs sources targets path
      → (v : ℕ) × (is_member v path ≡ true) × (is_member v separator ≡ true)

-- disjoint paths, and a separator of as many vertices, which shows that there are no more
pub record IsLinking (arcs : List (ℕ × ℕ)) (sources targets : List ℕ) (paths : List (List ℕ)) (separator : List ℕ) : Type 0 where
  pub disjoint : AreDisjointPaths arcs sources targets paths
  pub separates : IsSeparator arcs sources targets separator
  pub as_many : length paths ≡ length separator

-- there are disjoint paths, one more than the given ones, which end at all targets at which the given ones end and at one further target
pub record HasOnePathMore (arcs : List (ℕ × ℕ)) (sources targets : List ℕ) (paths : List (List ℕ)) : Type 0 where
  pub larger : List (List ℕ)
  pub disjoint : AreDisjointPaths arcs sources targets larger
  pub one_more : length larger ≡ suc (length paths)
  pub further : ℕ
  pub new : is_member further (map last_of paths) ≡ false
  pub ends : (v : ℕ) → is_member v (map last_of larger) ≡ (v == further || is_member v (map last_of paths))

-- some separator has k vertices
pub record HasSeparatorOf (arcs : List (ℕ × ℕ)) (sources targets : List ℕ) (k : ℕ) : Type 0 where
  pub separator : List ℕ
  pub separates : IsSeparator arcs sources targets separator
  pub size : length separator ≡ k

-- there are disjoint paths from sources that end at each of these vertices, and at no others
pub record HasPathsToEach (arcs : List (ℕ × ℕ)) (sources ends : List ℕ) : Type 0 where
  pub paths : List (List ℕ)
  pub disjoint : AreDisjointPaths arcs sources ends paths
  pub reached : (v : ℕ) → is_member v ends ≡ true → is_member v (map last_of paths) ≡ true
