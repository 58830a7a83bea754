-- What a search for a shortest walk does in its rounds: each round finds what arcs from the last found vertices lead to, and
-- tells for each new vertex one before it (Schrijver, chapter 6).
use Rattle.std.specs.Prelude.{◌≡◌, ℕ, suc, ◌<◌, Bool, true, false, not, ◌&&◌, ◌||◌, if◌then◌else◌, List, [], ◌∷◌, length, slice_index}
use Rattle.mat_sets.specs.Sets.{is_member}

-- whether an arc leads to v from one of these vertices
abbrev pub is_next : (ℕ → ℕ → Bool) → List ℕ → ℕ → Bool
is_next arc [] v = false
is_next arc (u ∷ us) v = arc u v || is_next arc us v

-- the unreached vertices that pass are found: `more` has them beside those of `found`, `rest` is what stays unreached, and in `after`, the table of the
-- vertex before each vertex, u stands before each of them
pub record AreTaken (test : ℕ → Bool) (u : ℕ) (unreached found before rest more after : List ℕ) : Type 0 where
  pub rest_is : (v : ℕ) → is_member v rest ≡ (is_member v unreached && not (test v))
  pub more_is : (v : ℕ) → is_member v more ≡ (is_member v found || (is_member v unreached && test v))
  pub after_is : (v : ℕ) → slice_index after v ≡ (if (is_member v unreached && test v) then u else slice_index before v)
  pub long : length after ≡ length before

-- the unreached vertices next to the last found ones are found, each with one of those before it
pub record IsRound (arc : ℕ → ℕ → Bool) (frontier unreached before rest found after : List ℕ) : Type 0 where
  pub rest_is : (v : ℕ) → is_member v rest ≡ (is_member v unreached && not (is_next arc frontier v))
  pub found_is : (v : ℕ) → is_member v found ≡ (is_member v unreached && is_next arc frontier v)
  pub member : (v : ℕ) → is_member v found ≡ true → is_member (slice_index after v) frontier ≡ true
  pub arc_from : (v : ℕ) → is_member v found ≡ true → arc (slice_index after v) v ≡ true
  pub kept : (v : ℕ) → is_member v found ≡ false → slice_index after v ≡ slice_index before v
  pub long : length after ≡ length before

-- the last vertex, the one before it, and so on
pub record IsTrace (before : List ℕ) (arcs last : ℕ) (vertices : List ℕ) : Type 0 where
  pub long : length vertices ≡ suc arcs
  pub ends : slice_index vertices arcs ≡ last
  pub steps : (i : ℕ) → i < arcs → slice_index vertices i ≡ slice_index before (slice_index vertices (suc i))
