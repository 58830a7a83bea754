-- Reading the words of a header behind its command: how many there are first, and then each of them, from left to right.
use Rattle.std.specs.Prelude.{ℕ, codes, Result, Ok}
use Rattle.mat_sets.specs.declared.weight.Weight.{Weight}
use Rattle.mat_words.specs.Cursors.{WordsLeft}
use Rattle.mat_words.specs.Steps.{◌>>=◌}
use Rattle.mat_cert.specs.Faults.{Fault}
use Rattle.mat_cert.specs.Limits.{most_colours, most_rows, most_columns, most_levels}
use Rattle.mat_sets.specs.Limits.{most_vertices, most_elements, most_matroids, most_trees}
use Rattle.mat_cert.specs.LineReading.{fixed_at, has_words, size_at, below_at, weight_at}

-- the number of elements
abbrev pub count_at : WordsLeft → Result (ℕ × WordsLeft) Fault
count_at words = size_at 0 most_elements words

-- the elements, and a number of at most as many: the last rung of a ladder, or how many sets there are
unfoldable pub ladder_header_at : WordsLeft → Result (ℕ × ℕ) Fault
ladder_header_at words = do
  counted ← has_words 2 words
  count ← count_at words
  last ← size_at 0 count.0 count.1
  Ok (count.0, last.0)

-- the elements, the matroids, the levels and the weight of a union
unfoldable pub union_header_at : WordsLeft → Result (ℕ × ℕ × ℕ × Weight) Fault
union_header_at words = do
  counted ← has_words 4 words
  count ← count_at words
  parts ← size_at 1 most_matroids count.1
  levels ← size_at 0 most_levels parts.1
  weight ← weight_at levels.1
  Ok (count.0, parts.0, levels.0, weight.0)

-- the elements, and one that nothing covers
unfoldable pub never_header_at : WordsLeft → Result (ℕ × ℕ) Fault
never_header_at words = do
  counted ← has_words 3 words
  count ← count_at words
  rest ← fixed_at (codes "never") count.1
  loop_at ← below_at count.0 rest
  Ok (count.0, loop_at.0)

-- the elements, and how many trees there are
unfoldable pub trees_header_at : WordsLeft → Result (ℕ × ℕ) Fault
trees_header_at words = do
  counted ← has_words 2 words
  count ← count_at words
  trees ← size_at 1 most_trees count.1
  Ok (count.0, trees.0)

-- the elements, a number k where k disjoint trees do not exist, and the vertices, with the words behind these
unfoldable pub none_at : WordsLeft → Result (ℕ × ℕ × ℕ × WordsLeft) Fault
none_at words = do
  count ← count_at words
  trees ← size_at 1 most_trees count.1
  rest ← fixed_at (codes "none") trees.1
  vertices ← size_at 1 most_vertices rest
  Ok (count.0, trees.0, vertices.0, vertices.1)

-- the elements, a number k where k disjoint trees do not exist, the vertices and their classes
unfoldable pub classes_header_at : WordsLeft → Result (ℕ × ℕ × ℕ × ℕ) Fault
classes_header_at words = do
  counted ← has_words 5 words
  none ← none_at words
  classes ← size_at 1 none.2 none.3
  Ok (none.0, none.1, none.2, classes.0)

-- the elements, a number k where k disjoint arborescences do not exist, and the vertices
unfoldable pub entered_header_at : WordsLeft → Result (ℕ × ℕ × ℕ) Fault
entered_header_at words = do
  counted ← has_words 4 words
  none ← none_at words
  Ok (none.0, none.1, none.2)

-- the elements, the last rung, the vertices and the colours
unfoldable pub rainbow_header_at : WordsLeft → Result (ℕ × ℕ × ℕ × ℕ) Fault
rainbow_header_at words = do
  counted ← has_words 4 words
  count ← count_at words
  last ← size_at 0 count.0 count.1
  vertices ← size_at 1 most_vertices last.1
  colours ← size_at 0 most_colours vertices.1
  Ok (count.0, last.0, vertices.0, colours.0)

-- the elements, the last rung, the rows and the columns
unfoldable pub assign_header_at : WordsLeft → Result (ℕ × ℕ × ℕ × ℕ) Fault
assign_header_at words = do
  counted ← has_words 4 words
  count ← count_at words
  last ← size_at 0 count.0 count.1
  rows ← size_at 0 most_rows last.1
  columns ← size_at 0 most_columns rows.1
  Ok (count.0, last.0, rows.0, columns.0)
