-- The vertices from which a walk leads to a goal (Schrijver, chapter 6).
use Rattle.std.specs.Prelude.{◌≡◌, ℕ, ◌<◌, ◌≤◌, Bool, true, false, List, length}
use Rattle.mat_sets.specs.Sets.{is_member, IsRising}

-- each goal, each vertex from which an arc leads to one of these vertices, and no more
pub record AreLeading (n : ℕ) (arc : ℕ → ℕ → Bool) (goal : ℕ → Bool) (leading : List ℕ) : Type 0 where
  pub below : (v : ℕ) → is_member v leading ≡ true → v < n
  pub goals : (v : ℕ) → v < n → goal v ≡ true → is_member v leading ≡ true
  pub closed : (u v : ℕ) → u < n → arc u v ≡ true → is_member v leading ≡ true → is_member u leading ≡ true
  pub least : (f : ℕ → Bool) → ((v : ℕ) → v < n → goal v ≡ true → f v ≡ true)
      → ((u v : ℕ) → v < n → arc u v ≡ true → f v ≡ true → f u ≡ true) → (v : ℕ) → is_member v leading ≡ true → f v ≡ true

-- ---- the parts of the search

-- whether u is not among these vertices, and an arc leads from it to one of them
abbrev pub IsLed : (arc : ℕ → ℕ → Bool) (u : ℕ) (leading : List ℕ) → Bool → Type 0
IsLed arc u leading true = (is_member u leading ≡ false) × ((v : ℕ) × (is_member v leading ≡ true) × (arc u v ≡ true))
IsLed arc u leading false = (v : ℕ) → arc u v ≡ true → is_member v leading ≡ true → is_member u leading ≡ true

-- of the vertices below u those are put in from which an arc leads to one that is in; where none comes, none was left out
pub record AreLedFrom (n : ℕ) (arc : ℕ → ℕ → Bool) (u : ℕ) (old new : List ℕ) (came : Bool) : Type 0 where
  pub below : (v : ℕ) → is_member v new ≡ true → v < n
  pub more : (v : ℕ) → is_member v old ≡ true → is_member v new ≡ true
  pub rising : IsRising old → IsRising new
  pub long : IsRising old → length old ≤ length new
  pub longer : IsRising old → came ≡ true → length old < length new
  pub least : (f : ℕ → Bool) → ((v : ℕ) → is_member v old ≡ true → f v ≡ true)
      → ((w v : ℕ) → v < n → arc w v ≡ true → f v ≡ true → f w ≡ true) → (v : ℕ) → is_member v new ≡ true → f v ≡ true
  pub closed : came ≡ false → (w v : ℕ) → w < u → arc w v ≡ true → is_member v new ≡ true → is_member w new ≡ true
