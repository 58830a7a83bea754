-- Graphs whose edges or arcs are numbered, walks along them, arcs that enter a vertex set, and spanning arborescences (Schrijver,
-- chapters 3 and 52).
use Rattle.std.specs.Prelude.{◌≡◌, ℕ, suc, ◌<◌, ◌^◌, ◌⊎◌, Bool, false, not, ◌&&◌, List, [], ◌∷◌, filter, length, slice_index_or}
use Rattle.mat_sets.specs.Sets.{is_member, IsSet, IsSubset}

-- the two ends of edge e; for an arc first its tail and then its head
abbrev pub ends_of : List (ℕ × ℕ) → ℕ → ℕ × ℕ
ends_of edges e = slice_index_or edges e (0, 0)

-- both ends of each edge or arc are vertices, and there are fewer than 2^32 edges or arcs
pub record IsGraph (vertices : ℕ) (edges : List (ℕ × ℕ)) : Type 0 where
  pub first : (e : ℕ) → e < length edges → (ends_of edges e).0 < vertices
  pub second : (e : ℕ) → e < length edges → (ends_of edges e).1 < vertices
  pub few : length edges < 2 ^ 32

-- edge e has the ends v and u, in either order
abbrev pub Joins : (ℕ → ℕ × ℕ) → ℕ → ℕ → ℕ → Type 0
Joins ends e v u = (((ends e).0 ≡ v) × ((ends e).1 ≡ u)) ⊎ (((ends e).0 ≡ u) × ((ends e).1 ≡ v))

-- a walk from v to w along these edges, one after the other, each in either direction
abbrev pub Walk : (ℕ → ℕ × ℕ) → List ℕ → ℕ → ℕ → Type 0
Walk ends [] v w = v ≡ w
Walk ends (e ∷ edges) v w = (u : ℕ) × Joins ends e v u × Walk ends edges u w

-- a walk from v to w along these arcs, one after the other, each from its tail to its head
abbrev pub DirectedWalk : (ℕ → ℕ × ℕ) → List ℕ → ℕ → ℕ → Type 0
DirectedWalk ends [] v w = v ≡ w
DirectedWalk ends (a ∷ arcs) v w = ((ends a).0 ≡ v) × DirectedWalk ends arcs (ends a).1 w

-- a directed walk from v to w along members of a set of arcs
pub record Reaches (ends : ℕ → ℕ × ℕ) (arcs : List ℕ) (v w : ℕ) : Type 0 where
  pub along : List ℕ
  pub inside : IsSubset along arcs
  pub walk : DirectedWalk ends along v w

-- whether arc a enters a vertex set: its head is inside, and its tail is not (Schrijver, chapter 3)
abbrev pub enters : (ℕ → ℕ × ℕ) → List ℕ → ℕ → Bool
enters ends cut a = is_member (ends a).1 cut && not (is_member (ends a).0 cut)

-- the arcs among these that enter a vertex set (Schrijver, chapter 3)
unfoldable pub entering : (ℕ → ℕ × ℕ) → List ℕ → List ℕ → List ℕ
entering ends arcs cut = filter (enters ends cut) arcs

-- a vertex set that is not empty and does not hold the root
pub record IsRootFree (vertices root : ℕ) (cut : List ℕ) : Type 0 where
  pub set : IsSet vertices cut
  pub some : 0 < length cut
  pub free : is_member root cut ≡ false

-- such a set that no arc enters
pub record IsUnentered (vertices : ℕ) (arcs : List (ℕ × ℕ)) (root : ℕ) (cut : List ℕ) : Type 0 where
  pub root_free : IsRootFree vertices root cut
  pub none : (a : ℕ) → a < length arcs → enters (ends_of arcs) cut a ≡ false

-- a spanning arborescence: one arc fewer than there are vertices, along which the root reaches each vertex
pub record IsSpanningArborescence (vertices count : ℕ) (ends : ℕ → ℕ × ℕ) (root : ℕ) (arcs : List ℕ) : Type 0 where
  pub set : IsSet count arcs
  pub size : suc (length arcs) ≡ vertices
  pub reached : (v : ℕ) → v < vertices → Reaches ends arcs root v
