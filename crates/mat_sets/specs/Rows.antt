-- Rows of sets: a set of numbers at each place of a list.
use Rattle.std.specs.Prelude.{◌≡◌, ℕ, ◌<◌, not, ◌&&◌, ◌||◌, ◌==◌, List, [], length, slice_index_or}
use Rattle.mat_sets.specs.Sets.{is_member}

-- the row at a place, or none
abbrev pub row_at : List (List ℕ) → ℕ → List ℕ
row_at rows i = slice_index_or rows i []

-- a number is put into the rows at these places, and nothing else is
pub record IsEntered (k : ℕ) (places : List ℕ) (before after : List (List ℕ)) : Type 0 where
  pub count : length after ≡ length before
  pub members : (j i : ℕ) → i < length before
      → is_member j (row_at after i) ≡ (is_member j (row_at before i) || (j == k && is_member i places))

-- these numbers are taken out of each row
pub record AreRemoved (gone : List ℕ) (before after : List (List ℕ)) : Type 0 where
  pub count : length after ≡ length before
  pub members : (i x : ℕ) → is_member x (row_at after i) ≡ (is_member x (row_at before i) && not (is_member x gone))

-- the rows at these places are empty, and the others as before
pub record AreEmptied (places : List ℕ) (before after : List (List ℕ)) : Type 0 where
  pub count : length after ≡ length before
  pub members : (i x : ℕ) → is_member x (row_at after i) ≡ (is_member x (row_at before i) && not (is_member i places))
