-- Assignments: cells of a table of which no two share a row or a column (Schrijver, chapter 17).
use Rattle.std.specs.Prelude.{ℕ, ◌<◌, List, length, slice_index_or}
use Rattle.mat_sets.specs.Sets.{IsSet}
use Rattle.mat_count.specs.Labels.{AreApart}
use Rattle.mat_sets.specs.declared.weight.Weight.{Weight}
use Rattle.mat_split.specs.Ladders.{IsLadder}
use Rattle.mat_split.specs.declared.ladder.Rung.{Rung}
use Rattle.mat_fronts.specs.Once.{is_once}

-- the row of cell e
abbrev pub row_at : List (ℕ × ℕ) → ℕ → ℕ
row_at cells e = (slice_index_or cells e (0, 0)).0

-- the column of cell e
abbrev pub column_at : List (ℕ × ℕ) → ℕ → ℕ
column_at cells e = (slice_index_or cells e (0, 0)).1

-- each cell is in the table
pub record AreCells (rows columns : ℕ) (cells : List (ℕ × ℕ)) : Type 0 where
  pub row : (e : ℕ) → e < length cells → row_at cells e < rows
  pub column : (e : ℕ) → e < length cells → column_at cells e < columns

-- cells of which no two share a row or a column
pub record IsAssignment (cells : List (ℕ × ℕ)) (X : List ℕ) : Type 0 where
  pub set : IsSet (length cells) X
  pub rows : AreApart (row_at cells) X
  pub columns : AreApart (column_at cells) X

-- a ladder of the partition matroids of the rows and of the columns
abbrev pub IsAssignmentLadder : ℕ → ℕ → List (ℕ × ℕ) → List Weight → List Rung → List ℕ → Type 0
IsAssignmentLadder rows columns cells w rungs cut =
    IsLadder (length cells) (is_once (length cells) rows (row_at cells)) (is_once (length cells) columns (column_at cells)) w rungs cut
