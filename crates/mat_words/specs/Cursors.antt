-- What contracts see of what is left of a text and of a line.
use Rattle.std.specs.Prelude.{ℕ, List, [], Option, Some, None}
use Rattle.std.specs.Borrow.{Bor}
use Rattle.mat_words.specs.Lines.{lines_of}
use Rattle.mat_words.specs.Words.{parts_of}
use Rattle.mat_words.specs.declared.cursor.LineCursor.{LineCursor}
use Rattle.mat_words.specs.declared.cursor.WordCursor.{WordCursor}

-- the words that are left of the line with this number
pub record WordsLeft : Type 0 where
  pub line : ℕ
  pub words : List (List ℕ)

-- The lines that are left of a text, of which the first has this number. The last is what no byte 10 ends.
pub record LinesLeft : Type 0 where
  pub line : ℕ
  pub lines : List (List ℕ)

-- the words that stand in what is left of a line, and none where nothing is left
abbrev pub parts_left : Option (Bor (List ℕ)) → List (List ℕ)
parts_left None = []
parts_left (Some bytes) = parts_of bytes.now

-- the words that are left of a line
abbrev pub words_left : WordCursor → WordsLeft
words_left w = record { line = w.line; words = parts_left w.left }

-- the lines that are left of a text
abbrev pub lines_left : LineCursor → LinesLeft
lines_left p = record { line = p.line; lines = lines_of p.text.now }
