-- What a search does that ends at the first goal that it meets, among the vertices to which it may come (Schrijver, chapter 6).
use Rattle.std.specs.Prelude.{◌≡◌, ◌≢◌, ℕ, suc, ◌+◌, ◌<◌, ◌≤◌, ◌^◌, Bool, true, false, ◌&&◌, not, ◌==◌, nat_lt, ◌⊎◌, List, length, slice_index, Option, MatchOption}
use Rattle.std.specs.Global.{Vec}
use Rattle.mat_sets.specs.Rounds.{AreTaken}
use Rattle.mat_sets.specs.Sets.{is_member, AreDistinct}
use Rattle.mat_sets.specs.Walks.{IsWalk}
use Rattle.mat_flow.specs.declared.seeking.SearchRoom.{SearchRoom}

-- room for searches among the numbers below n
pub record IsRoom (n : ℕ) (room : SearchRoom) : Type 0 where
  pub few : n < 2 ^ 32
  pub below : (v : ℕ) → is_member v room.live ≡ true → v < n
  pub long : length room.before.items ≡ n

-- the vertices to which a search may still come
abbrev pub live_in : SearchRoom → List ℕ
live_in room = room.live

-- what the last search found
abbrev pub found_in : SearchRoom → List ℕ
found_in room = room.found.items

-- no goal is outside these vertices, and no arc leads to one of them from outside: a search among them finds a walk to a goal where there is one
pub record IsShut (n : ℕ) (arc : ℕ → ℕ → Bool) (goal : ℕ → Bool) (live : List ℕ) : Type 0 where
  pub missed : (v : ℕ) → v < n → is_member v live ≡ false → goal v ≡ false
  pub closed : (u v : ℕ) → u < n → is_member u live ≡ false → v < n → arc u v ≡ true → is_member v live ≡ false

-- a walk from a start to a goal on which no vertex stands twice, among these vertices
pub record IsFreeWalk (n : ℕ) (arc : ℕ → ℕ → Bool) (start goal : ℕ → Bool) (live vertices : List ℕ) : Type 0 where
  pub walk : IsWalk n arc start goal vertices
  pub differ : (i j : ℕ) → i < j → j < length vertices → slice_index vertices i ≢ slice_index vertices j
  pub inside : (v : ℕ) → is_member v vertices ≡ true → is_member v live ≡ true

-- no walk among these vertices leads from a start to a goal: what the starts reach among them, and no more, is taken out
pub record IsSpent (n : ℕ) (arc : ℕ → ℕ → Bool) (start goal : ℕ → Bool) (live rest : List ℕ) : Type 0 where
  pub fewer : (v : ℕ) → is_member v rest ≡ true → is_member v live ≡ true
  pub starts : (v : ℕ) → start v ≡ true → is_member v rest ≡ false
  pub closed : (u v : ℕ) → is_member u live ≡ true → is_member u rest ≡ false → arc u v ≡ true → is_member v rest ≡ false
  pub missed : (v : ℕ) → is_member v live ≡ true → is_member v rest ≡ false → goal v ≡ false
  pub reached : (f : ℕ → Bool) → ((v : ℕ) → v < n → start v ≡ true → f v ≡ true)
      → ((u v : ℕ) → v < n → f u ≡ true → arc u v ≡ true → f v ≡ true)
      → (v : ℕ) → is_member v live ≡ true → is_member v rest ≡ false → f v ≡ true

-- what a search finds among these vertices, and to which of them the next one may come
abbrev pub IsSought : (n : ℕ) (arc : ℕ → ℕ → Bool) (start goal : ℕ → Bool) (live rest found : List ℕ) → Option (Vec ℕ) → Type 0
IsSought n arc start goal live rest found end = MatchOption end
    (IsSpent n arc start goal live rest × ((v : ℕ) → is_member v found ≡ (is_member v live && not (is_member v rest))))
    (λ walk. IsFreeWalk n arc start goal live walk.items × ((v : ℕ) → is_member v rest ≡ is_member v live))

-- ---- the parts of the search

-- the vertices that pass are found up to the first goal among them, and u comes before each
abbrev pub IsTake : (test goal : ℕ → Bool) (u : ℕ) (live found before rest more after : List ℕ) → Option ℕ → Type 0
IsTake test goal u live found before rest more after end = MatchOption end
    (AreTaken test u live found before rest more after
    × ((v : ℕ) → is_member v more ≡ true → is_member v found ≡ false → goal v ≡ false))
    (λ g. AreTaken (λ x. nat_lt x (g + 1) && test x) u live found before rest more after × (is_member g more ≡ true) × (goal g ≡ true))

-- what is found later stands after what was found, and nothing is found twice
pub record IsFollowed (live found more : List ℕ) : Type 0 where
  pub long : length found ≤ length more
  pub same : (i : ℕ) → i < length found → slice_index more i ≡ slice_index found i
  pub distinct : AreDistinct found → ((v : ℕ) → is_member v live ≡ true → is_member v found ≡ false) → AreDistinct more

-- a vertex that was found is a start, with n in place of a vertex before it and the depth 0; or an arc leads to it from the vertex before it, which
-- was found too, and has a depth less by one
abbrev pub Comes : (n : ℕ) (arc : ℕ → ℕ → Bool) (start : ℕ → Bool) (found before : List ℕ) (depth : ℕ → ℕ) (v : ℕ) → Type 0
Comes n arc start found before depth v = ((slice_index before v ≡ n) × (start v ≡ true) × (depth v ≡ 0))
    ⊎ ((is_member (slice_index before v) found ≡ true) × (arc (slice_index before v) v ≡ true) × (depth v ≡ suc (depth (slice_index before v))))

-- each vertex that was found so far is one of the live ones, and is reached from a start along found vertices, in as many steps as its depth; `rest`
-- has the live vertices that were not found
pub record IsChain (n : ℕ) (arc : ℕ → ℕ → Bool) (start : ℕ → Bool) (live rest found before : List ℕ) : Type 0 where
  pub depth : ℕ → ℕ
  pub below : (v : ℕ) → is_member v live ≡ true → v < n
  pub rest_is : (v : ℕ) → is_member v rest ≡ (is_member v live && not (is_member v found))
  pub inside : (v : ℕ) → is_member v found ≡ true → is_member v live ≡ true
  pub comes : (v : ℕ) → is_member v found ≡ true → Comes n arc start found before depth v
  pub long : length before ≡ n

-- a walk from a start to a vertex, along vertices that were found
pub record IsTraced (n : ℕ) (arc : ℕ → ℕ → Bool) (start : ℕ → Bool) (found : List ℕ) (last : ℕ) (vertices : List ℕ) : Type 0 where
  pub walk : IsWalk n arc start (λ v. v == last) vertices
  pub differ : (i j : ℕ) → i < j → j < length vertices → slice_index vertices i ≢ slice_index vertices j
  pub inside : (v : ℕ) → is_member v vertices ≡ true → is_member v found ≡ true
