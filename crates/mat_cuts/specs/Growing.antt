-- Which arc is taken while a tree grows from the root.
use Rattle.std.specs.Prelude.{◌≡◌, ℕ, ◌≤◌, Bool, true, false, not, ◌&&◌, nat_lt, List, Option, MatchOption}
use Rattle.mat_cuts.specs.Limits.{never}
use Rattle.mat_sets.specs.Sets.{is_member}
use Rattle.mat_cuts.specs.Raising.{at}

-- whether the arc leads from a reached vertex to one that is not reached
abbrev pub leaves : (ℕ → ℕ × ℕ) → List ℕ → ℕ → Bool
leaves ends reached a = is_member (ends a).0 reached && not (is_member (ends a).1 reached)

-- an arc of a list that leaves the reached vertices
pub record IsLeaving (ends : ℕ → ℕ × ℕ) (among reached : List ℕ) (a : ℕ) : Type 0 where
  pub member : is_member a among ≡ true
  pub leaving : leaves ends reached a ≡ true

-- that arc, or None where no arc of the list leaves them
abbrev pub TellsLeaving : (ends : ℕ → ℕ × ℕ) (among reached : List ℕ) → Option ℕ → Type 0
TellsLeaving ends among reached found =
    MatchOption found ((a : ℕ) → is_member a among ≡ true → leaves ends reached a ≡ false) (IsLeaving ends among reached)

-- whether the arc has a time
abbrev pub is_timed : List ℕ → ℕ → Bool
is_timed since a = nat_lt (at since a) never

-- an arc of a list with the earliest time among its arcs that leave the reached vertices
pub record IsEarliest (ends : ℕ → ℕ × ℕ) (since among reached : List ℕ) (a : ℕ) : Type 0 where
  pub member : is_member a among ≡ true
  pub leaving : leaves ends reached a ≡ true
  pub first : (b : ℕ) → is_member b among ≡ true → leaves ends reached b ≡ true → at since a ≤ at since b

-- that arc, or None where no arc of the list leaves them
abbrev pub TellsEarliest : (ends : ℕ → ℕ × ℕ) (since among reached : List ℕ) → Option ℕ → Type 0
TellsEarliest ends since among reached found =
    MatchOption found ((b : ℕ) → is_member b among ≡ true → leaves ends reached b ≡ false) (IsEarliest ends since among reached)
