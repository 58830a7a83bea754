-- The lines of a text.
use Rattle.std.specs.Prelude.{ℕ, ◌<◌, ◌≤◌, ◌≡◌, ◌≢◌, Bool, ◌==◌, List, []}
use Rattle.std.specs.Prelude.{◌∷◌, ◌++◌, length, slice_index, Option, Some, None, IsTrue}
use Rattle.std.specs.List.{All, slice_split, join_with_byte, list_all}
use Rattle.mat_words.specs.Words.{is_word}

-- whether a byte ends a line
abbrev pub is_newline : ℕ → Bool
is_newline b = b == 10

-- The contents of the lines of a text. The last item is what stands after the last byte 10: no byte 10 ends it, and it is no line.
abbrev pub lines_of : List ℕ → List (List ℕ)
lines_of text = slice_split is_newline text

-- no byte of it ends a line
abbrev pub HasNoNewline : List ℕ → Type 0
HasNoNewline bytes = All (λ b. b ≢ 10) bytes

-- the place of the first byte 10 that stands at `from` or after it, where there is one
abbrev pub IsNextLine : List ℕ → ℕ → Option ℕ → Type 0
IsNextLine text from (Some at) = (from ≤ at) × (at < length text) × (slice_index text at ≡ 10)
    × ((k : ℕ) → from ≤ k → k < at → slice_index text k ≢ 10)
IsNextLine text from None = (k : ℕ) → from ≤ k → k < length text → slice_index text k ≢ 10

-- a text is cut behind its first line
pub record IsFirstLine (text before after : List ℕ) : Type 0 where
  pub whole : text ≡ before ++ 10 ∷ after
  pub first : HasNoNewline before
  pub lines : lines_of text ≡ before ∷ lines_of after

-- a line is a list of words
abbrev pub Line : Type 0
Line = List (List ℕ)

-- each of these is a line that may be written: one or more words
abbrev pub AreLines : List Line → Type 0
AreLines lines = All (λ words. (0 < length words) × IsTrue (list_all is_word words)) lines

-- The text of a list of lines: one space between words, and byte 10 after each line.
abbrev pub text_of : List Line → List ℕ
text_of [] = []
text_of (words ∷ lines) = join_with_byte 32 words ++ 10 ∷ text_of lines
