-- The exchanges at an independent set column by column (Schrijver, chapter 39).
use Rattle.std.specs.Prelude.{◌≡◌, ℕ, Bool, true, false, not, ◌&&◌, nat_lt, List, [], length, slice_index_or}
use Rattle.mat_sets.specs.Sets.{is_member, with_one, without_one}

-- whether z lies outside I and can take the place of its member y
abbrev pub takes_place : ℕ → (List ℕ → Bool) → List ℕ → ℕ → ℕ → Bool
takes_place n independent I y z = nat_lt z n && (not (is_member z I) && independent (with_one (without_one I y) z))

-- for each member of I what can take its place, and for each other element nothing
pub record AreColumns (n : ℕ) (independent : List ℕ → Bool) (I : List ℕ) (columns : List (List ℕ)) : Type 0 where
  pub long : length columns ≡ n
  pub columns_are : (y z : ℕ) → is_member y I ≡ true → is_member z (slice_index_or columns y []) ≡ takes_place n independent I y z
  pub others_are : (y z : ℕ) → is_member y I ≡ false → is_member z (slice_index_or columns y []) ≡ false
