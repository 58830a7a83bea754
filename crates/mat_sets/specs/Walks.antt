-- Walks along the arcs of a relation on the numbers below n, and what they reach (Schrijver, chapters 3 and 6).
use Rattle.std.specs.Prelude.{◌≡◌, ◌≢◌, ℕ, suc, ◌<◌, ◌≤◌, ◌==◌, Bool, true, false, List, length, slice_index}
use Rattle.mat_sets.specs.Sets.{is_member, IsSet}

-- a list of vertices from a start to a goal, each joined to the next by an arc
pub record IsWalk (n : ℕ) (arc : ℕ → ℕ → Bool) (start goal : ℕ → Bool) (vertices : List ℕ) : Type 0 where
  pub arcs : ℕ
  pub long : length vertices ≡ suc arcs
  pub below : (i : ℕ) → i < length vertices → slice_index vertices i < n
  pub first : start (slice_index vertices 0) ≡ true
  pub last : goal (slice_index vertices arcs) ≡ true
  pub steps : (i : ℕ) → suc i < length vertices → arc (slice_index vertices i) (slice_index vertices (suc i)) ≡ true

-- a walk with fewest vertices
pub record IsShortestWalk (n : ℕ) (arc : ℕ → ℕ → Bool) (start goal : ℕ → Bool) (vertices : List ℕ) : Type 0 where
  pub walk : IsWalk n arc start goal vertices
  pub fewest : (others : List ℕ) → IsWalk n arc start goal others → length vertices ≤ length others

-- the vertices are all different, none but the first is a start, none but the last a goal, and no arc leads from one
-- to another that stands further on than the next
pub record IsChordless (n : ℕ) (arc : ℕ → ℕ → Bool) (start goal : ℕ → Bool) (vertices : List ℕ) : Type 0 where
  pub differ : (i j : ℕ) → i < j → j < length vertices → slice_index vertices i ≢ slice_index vertices j
  pub start_once : (i : ℕ) → 0 < i → i < length vertices → start (slice_index vertices i) ≡ false
  pub goal_once : (i : ℕ) → suc i < length vertices → goal (slice_index vertices i) ≡ false
  pub no_chord : (i j : ℕ) → suc i < j → j < length vertices → arc (slice_index vertices i) (slice_index vertices j) ≡ false

-- the set of all vertices to which a walk leads from a start: it holds the starts, no arc leaves it, and each member is reached
pub record IsReachedSet (n : ℕ) (arc : ℕ → ℕ → Bool) (start : ℕ → Bool) (reached : List ℕ) : Type 0 where
  pub set : IsSet n reached
  pub starts : (v : ℕ) → v < n → start v ≡ true → is_member v reached ≡ true
  pub closed : (u v : ℕ) → is_member u reached ≡ true → v < n → arc u v ≡ true → is_member v reached ≡ true
  pub walks : (v : ℕ) → is_member v reached ≡ true → (vertices : List ℕ) × IsWalk n arc start (λ u. u == v) vertices
