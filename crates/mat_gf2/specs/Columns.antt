-- Columns over the field of two elements, as numbers whose bits are the entries: the sum of two columns is their bitwise exclusive-or
-- (Schrijver, chapter 39).
use Rattle.std.specs.Prelude.{◌≢◌, ℕ, ◌<◌, ◌≤◌, ◌^◌, Bool, not, ◌&&◌, ◌==◌, List, [], ◌∷◌, length, slice_index}
use Rattle.std.specs.Int.Bits.{bit_xor}
use Rattle.mat_sets.specs.Sets.{IsRising, IsSubset}
use Rattle.mat_sets.specs.SetTests.{is_set}
use Rattle.mat_sets.specs.Search.{some_subset}

-- the exclusive-or of the columns of the members
abbrev pub xor_of : (ℕ → ℕ) → List ℕ → ℕ
xor_of column [] = 0
xor_of column (x ∷ X) = bit_xor (column x) (xor_of column X)

-- the columns of X are linearly independent: no subset of X that is not empty has columns whose exclusive-or is zero
-- (Schrijver, chapter 39)
pub record IsLinearlyIndependent (column : ℕ → ℕ) (X : List ℕ) : Type 0 where
  pub nonzero : (s : List ℕ) → IsRising s → IsSubset s X → s ≢ [] → xor_of column s ≢ 0

-- whether the columns of X are linearly independent: no subset of X that is not empty has columns whose exclusive-or is zero
-- (Schrijver, chapter 39)
unfoldable pub is_linearly_independent : (ℕ → ℕ) → List ℕ → Bool
is_linearly_independent column X = not (some_subset X (λ s. not (length s == 0) && xor_of column s == 0))

-- the linear matroid over the field of two elements on n columns: the sets of columns that are linearly independent (Schrijver, chapter 39)
abbrev pub is_gf2 : ℕ → (ℕ → ℕ) → List ℕ → Bool
is_gf2 n column X = is_set n X && is_linearly_independent column X

-- how many entries a column has, and the columns
pub record BinaryMatrix : Type 0 where
  pub dim : ℕ
  pub columns : List ℕ

-- a column has from 1 to 128 entries, its bits, and there are fewer than 2^32 columns
pub record IsBinaryMatrix (dim : ℕ) (columns : List ℕ) : Type 0 where
  pub some : 1 ≤ dim
  pub most : dim ≤ 128
  pub below : (e : ℕ) → e < length columns → slice_index columns e < 2 ^ dim
  pub few : length columns < 2 ^ 32

-- the column with this number
abbrev pub column_of : List ℕ → ℕ → ℕ
column_of columns e = slice_index columns e
