-- Parts of names that the elements of a set share, and no other element has.
use Rattle.std.specs.Prelude.{◌≡◌, ℕ, ◌<◌, ◌-◌, Bool, true, ◌&&◌, ◌||◌, ◌==◌, nat_eq, nat_lt, List, [], take, drop, length, get_or, slice_index}
use Rattle.std.specs.List.{list_all, list_any, starts_with, ends_with}
use Rattle.mat_sets.specs.Search.{those_below}
use Rattle.mat_text.specs.declared.shared.Side.{Side}
use Rattle.mat_text.specs.declared.shared.Side.TheVariants.{Front, Back}

-- whether bytes have a dot
abbrev pub has_dot : List ℕ → Bool
has_dot bytes = list_any (λ b. b == 46) bytes

-- whether a name has two parts: a dot stands in it, neither at its start nor at its end
abbrev pub has_two_parts : List ℕ → Bool
has_two_parts name = nat_lt 2 (length name) && has_dot (take (length name - 2) (drop 1 name))

-- whether a part of a name ends in front of this place: a dot stands there, or behind a dot a low line
abbrev pub ends_part : List ℕ → ℕ → Bool
ends_part name k = slice_index name k == 46 || (slice_index name k == 95 && has_dot (take k name))

-- whether a name has this part: at its front, where it ends, or at its back, behind a dot
abbrev pub has_part : Side → List ℕ → List ℕ → Bool
has_part Front part name = nat_lt (length part) (length name) && (starts_with nat_eq name part && ends_part name (length part))
has_part Back part name = nat_lt (length part) (length name) && (ends_with nat_eq name part && slice_index name (length name - length part - 1) == 46)

-- the part of so many bytes of a name at this side
abbrev pub part_at : Side → List ℕ → ℕ → List ℕ
part_at Front name count = take count name
part_at Back name count = drop (length name - count) name

-- the other side
abbrev pub other_side : Side → Side
other_side Front = Back
other_side Back = Front

-- the elements whose names have this part
abbrev pub those_with : List (List ℕ) → Side → List ℕ → List ℕ
those_with names side part = those_below (length names) (λ e. has_part side part (get_or names e []))

-- All names have two parts, and the set, which has members, is exactly the elements whose names have this part, which is not empty.
pub record IsShared (names : List (List ℕ)) (set : List ℕ) (side : Side) (part : List ℕ) : Type 0 where
  pub two_parts : list_all has_two_parts names ≡ true
  pub members : 0 < length set
  pub bytes : 0 < length part
  pub exactly : set ≡ those_with names side part

-- no part is shared so
abbrev pub SharesNone : List (List ℕ) → List ℕ → Side → Type 0
SharesNone names set side = (part : List ℕ) → IsShared names set side part → ⊥

-- the name is that of the set's first member
pub record IsNameOfFirst (names : List (List ℕ)) (set : List ℕ) (name : List ℕ) : Type 0 where
  pub listed : slice_index set 0 < length names
  pub same : name ≡ get_or names (slice_index set 0) []
