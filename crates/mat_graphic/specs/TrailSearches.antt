-- The algorithm's own notions: the search that roots the trees of a forest, in which all vertices are found, each but the roots from one found
-- earlier, and the trails between vertices. No public contract but that of what is kept rests on them.
use Rattle.std.specs.Prelude.{◌≡◌, ◌≢◌, ℕ, suc, ◌<◌, ◌≤◌, max, Bool, true, false, ◌&&◌, ◌==◌, nat_lt, ◌⊎◌, List, ◌++◌, length, slice_index, slice_index_or, Option, Some, None, MatchBool}
use Rattle.mat_sets.specs.Rows.{IsEntered}
use Rattle.mat_sets.specs.Sets.{is_member, AllBelow, AreDistinct, IsRising, IsSubset}
use Rattle.mat_sets.specs.Search.{IsNextFrom}
use Rattle.mat_sets.specs.Graphs.{Joins, Walk}
use Rattle.mat_graphic.specs.Mergings.{least_merged}

-- whether v stands in the list at i
abbrev pub stands_at : List ℕ → ℕ → ℕ → Bool
stands_at list v i = nat_lt i (length list) && slice_index list i == v

-- from place `from` on: where each vertex stands first, and for each place the next one with the same vertex
pub record ArePlaces (list : List ℕ) (from : ℕ) (first next : List (Option ℕ)) : Type 0 where
  pub first_is : (v : ℕ) → v < length first → IsNextFrom (stands_at list v) from (slice_index_or first v None)
  pub next_is : (i : ℕ) → from ≤ i → i < length list → IsNextFrom (stands_at list (slice_index list i)) (suc i) (slice_index_or next i None)
  pub long : length next ≡ length list

-- the ends of the members of a set, by their places in it
pub record AreEnds (ends : ℕ → ℕ × ℕ) (X firsts seconds : List ℕ) : Type 0 where
  pub firsts_long : length firsts ≡ length X
  pub seconds_long : length seconds ≡ length X
  pub first : (i : ℕ) → i < length X → slice_index firsts i ≡ (ends (slice_index X i)).0
  pub second : (i : ℕ) → i < length X → slice_index seconds i ≡ (ends (slice_index X i)).1

-- different vertices in the order in which they were found, with the place of each; each was found from an earlier place, but for the roots,
-- which have their own
pub record IsOrder (place : List (Option ℕ)) (order through before : List ℕ) : Type 0 where
  pub below : AllBelow (length place) order
  pub placed : (k : ℕ) → k < length order → slice_index_or place (slice_index order k) None ≡ Some k
  pub known : (v k : ℕ) → v < length place → slice_index_or place v None ≡ Some k → (k < length order) × (slice_index order k ≡ v)
  pub through_long : length through ≡ length order
  pub before_long : length before ≡ length order
  pub earlier : (k : ℕ) → k < length order → slice_index before k ≤ k

-- each vertex but the roots was found through a member of X that joins it to the vertex at its earlier place, and each root is in another
-- component than the vertices before it
pub record IsTree (ends : ℕ → ℕ × ℕ) (X order through before : List ℕ) : Type 0 where
  pub member : (k : ℕ) → k < length order → slice_index before k < k → is_member (slice_index through k) X ≡ true
  pub joined : (k : ℕ) → k < length order → slice_index before k < k
      → Joins ends (slice_index through k) (slice_index order k) (slice_index order (slice_index before k))
  pub apart : (k : ℕ) → k < length order → slice_index before k ≡ k → (j : ℕ) → j < k
      → least_merged ends X (slice_index order j) ≢ least_merged ends X (slice_index order k)

-- a member of X joins the vertex to the one at this place; or it is the place after the last one, and a vertex that is not yet found is in
-- another component than those before
pub record IsFindable (ends : ℕ → ℕ × ℕ) (X order : List ℕ) (vertex edge at : ℕ) : Type 0 where
  pub member : at < length order → is_member edge X ≡ true
  pub joined : at < length order → Joins ends edge vertex (slice_index order at)
  pub apart : at ≡ length order → is_member vertex order ≡ false → (j : ℕ) → j < length order
      → least_merged ends X (slice_index order j) ≢ least_merged ends X vertex

-- each member of the set that stands at a place is one of X and joins the head there to the tail there
abbrev pub AreJoined : (ℕ → ℕ × ℕ) → List ℕ → List ℕ → List ℕ → List ℕ → Type 0
AreJoined ends X tails heads set =
    ((i : ℕ) → i < length tails → is_member (slice_index set i) X ≡ true)
    × ((i : ℕ) → i < length tails → Joins ends (slice_index set i) (slice_index heads i) (slice_index tails i))

-- each edge of the vertices before place `at` leads to a found vertex, and the vertices found so far are those of a forest
pub record IsExploring (firsts seconds set : List ℕ) (n at : ℕ) (place : List (Option ℕ)) (order through before : List ℕ) : Type 0 where
  pub long : length place ≡ n
  pub ordered : IsOrder place order through before
  pub within : at ≤ length order
  pub forth : (k i : ℕ) → k < at → i < length firsts → slice_index firsts i ≡ slice_index order k
      → is_member (slice_index seconds i) order ≡ true
  pub back : (k i : ℕ) → k < at → i < length seconds → slice_index seconds i ≡ slice_index order k
      → is_member (slice_index firsts i) order ≡ true
  pub tree : (ends : ℕ → ℕ × ℕ) → IsRising set → AreEnds ends set firsts seconds → IsTree ends set order through before

-- ys begins with xs
pub record IsFront (xs ys : List ℕ) : Type 0 where
  pub longer : length xs ≤ length ys
  pub same : (k : ℕ) → k < length xs → slice_index ys k ≡ slice_index xs k

-- a walk from v to w along different members of X
pub record Trail (ends : ℕ → ℕ × ℕ) (X : List ℕ) (v w : ℕ) : Type 0 where
  pub edges : List ℕ
  pub distinct : AreDistinct edges
  pub inside : IsSubset edges X
  pub walk : Walk ends edges v w

-- the set of the edges of a trail from v to w
pub record IsTrailSet (ends : ℕ → ℕ × ℕ) (X : List ℕ) (v w : ℕ) (set : List ℕ) : Type 0 where
  pub trail : Trail ends X v w
  pub same : (z : ℕ) → is_member z set ≡ is_member z trail.edges

-- an end of the edge stands at place j
abbrev pub EndsAt : (ℕ → ℕ × ℕ) → List ℕ → ℕ → ℕ → Type 0
EndsAt ends order e j = ((ends e).0 ≡ slice_index order j) ⊎ ((ends e).1 ≡ slice_index order j)

-- different members of X, each with an end after this place, and the set of them
pub record AreAfter (ends : ℕ → ℕ × ℕ) (X order : List ℕ) (high : ℕ) (edges set : List ℕ) : Type 0 where
  pub distinct : AreDistinct edges
  pub inside : IsSubset edges X
  pub far : (f : ℕ) → is_member f edges ≡ true → (j : ℕ) × (high < j) × (j < length order) × EndsAt ends order f j
  pub same : (z : ℕ) → is_member z set ≡ is_member z edges

-- the set of the edges so far, which lead from the one vertex up to the first place, and from the second place down to the other vertex
pub record IsClimbing (ends : ℕ → ℕ × ℕ) (X order : List ℕ) (from to first second : ℕ) (set : List ℕ) : Type 0 where
  pub front : List ℕ
  pub back : List ℕ
  pub walk : Walk ends front (slice_index order from) (slice_index order first)
  pub walk_back : Walk ends back (slice_index order second) (slice_index order to)
  pub after : AreAfter ends X order (max first second) (front ++ back) set

-- an edge is put into the columns of some members of X: where v and w are joined, of the edges of a trail between them; else they are in
-- different components
pub record IsTrailEntered (ends : ℕ → ℕ × ℕ) (X : List ℕ) (v w edge : ℕ) (joined : Bool) (before after : List (List ℕ)) : Type 0 where
  pub members : List ℕ
  pub inside : IsSubset members X
  pub entered : IsEntered edge members before after
  pub told : MatchBool joined (IsTrailSet ends X v w members) (least_merged ends X v ≢ least_merged ends X w)
