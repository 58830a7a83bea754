-- The sets of a laminar family that were read before the next one, and those of them that share a member with it (Schrijver, chapter 13).
use Rattle.std.specs.Prelude.{◌≡◌, ℕ, true, List, [], slice_index_or}
use Rattle.mat_sets.specs.Sets.{is_member}

-- a number of elements, and sets of them
pub record EarlierFamily : Type 0 where
  pub count : ℕ
  pub sets : List (List ℕ)

-- the places of the sets that share a member with the next
pub record AreMeeting (sets : List (List ℕ)) (next places : List ℕ) : Type 0 where
  pub shared : (a x : ℕ) → is_member x next ≡ true → is_member x (slice_index_or sets a []) ≡ true → is_member a places ≡ true
  pub meets : (a : ℕ) → is_member a places ≡ true → (x : ℕ) × (is_member x next ≡ true) × (is_member x (slice_index_or sets a []) ≡ true)
