-- For each element the largest of the listed sets that hold it and that an independent set fills.
use Rattle.std.specs.Prelude.{◌≡◌, ℕ, zero, suc, ◌<◌, Bool, true, false, ◌&&◌, nat_le, nat_lt, if◌then◌else◌, Option, Some, None, IfSome, List, [], length, slice_index_or}
use Rattle.std.specs.List.{All}
use Rattle.mat_sets.specs.Sets.{is_member, IsRising, intersection}

-- whether I fills the set at this place: it has at least its cap of members there
abbrev pub is_filled : List (List ℕ) → List ℕ → List ℕ → ℕ → Bool
is_filled sets caps I i = nat_le (slice_index_or caps i 0) (length (intersection I (slice_index_or sets i [])))

-- the number of members of the set that is named
abbrev pub size_named : List (List ℕ) → Option ℕ → ℕ
size_named sets None = 0
size_named sets (Some i) = length (slice_index_or sets i [])

-- which is named of the set that was named before and the one at this place: the one with more members, and the former where they have equally many
abbrev pub larger_named : List (List ℕ) → Option ℕ → ℕ → Option ℕ
larger_named sets entry i = if nat_lt (size_named sets entry) (length (slice_index_or sets i [])) then Some i else entry

-- of the sets at places below a number, the first of the largest of those that I fills and that hold x
unfoldable pub largest_filled : List (List ℕ) → List ℕ → List ℕ → ℕ → ℕ → Option ℕ
largest_filled sets caps I zero x = None
largest_filled sets caps I (suc i) x =
    if is_filled sets caps I i && is_member x (slice_index_or sets i []) then larger_named sets (largest_filled sets caps I i x) i
    else largest_filled sets caps I i x

-- each set that is named is listed
abbrev pub AreListed : List (List ℕ) → List (Option ℕ) → Type 0
AreListed sets table = All (λ entry. IfSome entry (λ i. i < length sets)) table

-- for each of the members the larger of the set at the place and the one that was named before is named, and nothing else is changed
pub record AreLargerNamed (sets : List (List ℕ)) (place : ℕ) (members : List ℕ) (before after : List (Option ℕ)) : Type 0 where
  pub at : (x : ℕ) → x < length before → slice_index_or after x None
      ≡ (if is_member x members then larger_named sets (slice_index_or before x None) place else slice_index_or before x None)

-- for each element below `count`, of the first `many` sets the first of the largest of those that I fills and that hold it is named
pub record AreLargestNamed (sets : List (List ℕ)) (caps I : List ℕ) (many count : ℕ) (table : List (Option ℕ)) : Type 0 where
  pub at : (x : ℕ) → x < count → slice_index_or table x None ≡ largest_filled sets caps I many x

-- whether no set is named
abbrev pub is_unnamed : Option ℕ → Bool
is_unnamed None = true
is_unnamed (Some i) = false

-- the chosen sets are those that are named for a member of X
pub record AreNamed (named : ℕ → Option ℕ) (X chosen : List ℕ) : Type 0 where
  pub rising : IsRising chosen
  pub all : (x i : ℕ) → is_member x X ≡ true → named x ≡ Some i → is_member i chosen ≡ true
  pub only : (i : ℕ) → is_member i chosen ≡ true → (x : ℕ) × (is_member x X ≡ true) × (named x ≡ Some i)
