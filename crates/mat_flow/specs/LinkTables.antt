-- Tables that hold disjoint paths: for each vertex the vertex before it on its path, itself where it is on no path, and None where a path
-- starts at it. Such a table is a matching of the vertices with themselves and with the tails of the arcs that enter them; one path more is
-- an augmenting path of that matching (Schrijver, chapters 9 and 16).
use Rattle.std.specs.Prelude.{◌≡◌, ◌≢◌, ℕ, zero, suc, ◌+◌, ◌<◌, Bool, true, false, not, ◌&&◌, ◌||◌, ◌==◌, List, [], ◌∷◌, length, slice_index, slice_index_or, Option, Some, None}
use Rattle.mat_sets.specs.Sets.{is_member, with_one, IsSet}
use Rattle.mat_flow.specs.Paths.{has_arc}

-- the vertex that the table has at v
abbrev pub entry_at : List (Option ℕ) → ℕ → Option ℕ
entry_at table v = slice_index_or table v None

-- whether there is such a vertex, and w is it or the head of an arc that leaves it
abbrev pub leads_to : List (ℕ × ℕ) → Option ℕ → ℕ → Bool
leads_to arcs None w = false
leads_to arcs (Some u) w = w == u || has_arc arcs u w

-- whether there is such a vertex, and it is a member
abbrev pub is_member_there : Option ℕ → List ℕ → Bool
is_member_there None set = false
is_member_there (Some u) set = is_member u set

-- whether there is such a vertex, and it is x
abbrev pub is_there : ℕ → Option ℕ → Bool
is_there x None = false
is_there x (Some u) = x == u

-- 0 where there is such a vertex, and 1 where there is none
abbrev pub one_if_none : Option ℕ → ℕ
one_if_none None = 1
one_if_none (Some u) = 0

-- the arcs of the residual graph: from v one leads to the vertex before v, and to the heads of the arcs that leave that one
abbrev pub residual_arc : List (ℕ × ℕ) → List (Option ℕ) → ℕ → ℕ → Bool
residual_arc arcs before v w = leads_to arcs (entry_at before v) w

-- the goals of the residual graph: a target is before them
abbrev pub residual_goal : List ℕ → List (Option ℕ) → ℕ → Bool
residual_goal targets before v = is_member_there (entry_at before v) targets

-- a table that holds disjoint paths, and maybe closed paths beside them: each vertex is the one before it or the head of an arc from there;
-- those with none before them are sources, and those before none are targets; and none is before two
pub record IsLinkTable (vertices : ℕ) (arcs : List (ℕ × ℕ)) (sources targets : List ℕ) (before : List (Option ℕ)) : Type 0 where
  pub long : length before ≡ vertices
  pub below : (v u : ℕ) → entry_at before v ≡ Some u → u < vertices
  pub joined : (v u : ℕ) → entry_at before v ≡ Some u → leads_to arcs (Some u) v ≡ true
  pub starts : (v : ℕ) → v < vertices → entry_at before v ≡ None → is_member v sources ≡ true
  pub ends : (u : ℕ) → u < vertices → ((v : ℕ) → entry_at before v ≢ Some u) → is_member u targets ≡ true
  pub once : (v w u : ℕ) → entry_at before v ≡ Some u → entry_at before w ≡ Some u → v ≡ w

-- how many vertices have none before them
abbrev pub starts_in : List (Option ℕ) → ℕ
starts_in [] = 0
starts_in (entry ∷ table) = one_if_none entry + starts_in table

-- a table whose paths end at exactly the vertices of this set: each is before none, and as many vertices have none before them
pub record HasEnds (vertices : ℕ) (arcs : List (ℕ × ℕ)) (sources ends : List ℕ) (before : List (Option ℕ)) : Type 0 where
  pub set : IsSet vertices ends
  pub table : IsLinkTable vertices arcs sources ends before
  pub free : (u v : ℕ) → is_member u ends ≡ true → entry_at before v ≢ Some u
  pub count : starts_in before ≡ length ends

-- a set, and with it the vertex that there is
abbrev pub with_there : List ℕ → Option ℕ → List ℕ
with_there set None = set
with_there set (Some u) = with_one set u

-- a table whose paths end at exactly the vertices of this set and at another vertex, to which what is left of a path leads, or none is left
pub record HasPathLeft (vertices : ℕ) (arcs : List (ℕ × ℕ)) (sources rest : List ℕ) (left : Option ℕ) (before : List (Option ℕ)) : Type 0 where
  pub set : IsSet vertices rest
  pub other : (u : ℕ) → left ≡ Some u → is_member u rest ≡ false
  pub linked : HasEnds vertices arcs sources (with_there rest left) before

-- the entry of the vertex before place k of a walk, and at its first place what comes to it
abbrev pub entry_before : Option ℕ → List (Option ℕ) → List ℕ → ℕ → Option ℕ
entry_before first table walk zero = first
entry_before first table walk (suc k) = entry_at table (slice_index walk k)

-- each entry of a walk's vertices has moved on to the next one, `first` has come to the first, and the last entry is gone
pub record IsShifted (first : Option ℕ) (walk : List ℕ) (old new : List (Option ℕ)) : Type 0 where
  pub long : length new ≡ length old
  pub moved : (k : ℕ) → k < length walk → entry_at new (slice_index walk k) ≡ entry_before first old walk k
  pub kept : (v : ℕ) → is_member v walk ≡ false → entry_at new v ≡ entry_at old v
  pub starts : starts_in new + one_if_none (entry_before first old walk (length walk)) ≡ starts_in old + one_if_none first

-- whether x is before one of these vertices
abbrev pub is_before : List (Option ℕ) → List ℕ → ℕ → Bool
is_before before [] x = false
is_before before (v ∷ vs) x = is_there x (entry_at before v) || is_before before vs x

-- how many of these vertices have none before them
abbrev pub starts_among : List (Option ℕ) → List ℕ → ℕ
starts_among before [] = 0
starts_among before (v ∷ vs) = one_if_none (entry_at before v) + starts_among before vs

-- of these vertices those that are before none of them, as many as have none before them
pub record IsFrontier (before : List (Option ℕ)) (reached separator : List ℕ) : Type 0 where
  pub members : (x : ℕ) → is_member x separator ≡ (is_member x reached && not (is_before before reached x))
  pub size : length separator ≡ starts_among before reached
