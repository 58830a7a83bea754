-- The words of a line.
use Rattle.std.specs.Prelude.{ℕ, ◌-◌, ◌+◌, ◌<◌, ◌≤◌, ◌≡◌, ◌≢◌, Bool, false}
use Rattle.std.specs.Prelude.{◌&&◌, ◌==◌, nat_le, List, [], ◌∷◌, length, slice_index}
use Rattle.std.specs.List.{slice_split, list_all}

-- whether a byte is this one
abbrev pub is_byte : ℕ → ℕ → Bool
is_byte stop b = b == stop

-- whether a byte is the space
abbrev pub is_space : ℕ → Bool
is_space b = b == 32

-- whether a byte may stand in a word
abbrev pub is_letter : ℕ → Bool
is_letter b = nat_le 33 b && nat_le b 126

-- whether it is a word: not empty, with bytes in 33..126 alone
abbrev pub is_word : List ℕ → Bool
is_word [] = false
is_word (b ∷ bs) = list_all is_letter (b ∷ bs)

-- the parts of a line that single spaces part, of which there is at least one
abbrev pub parts_of : List ℕ → List (List ℕ)
parts_of line = slice_split is_space line

-- the words of a line: its parts between single spaces, and none where it is empty
abbrev pub words_of : List ℕ → List (List ℕ)
words_of [] = []
words_of (b ∷ bs) = parts_of (b ∷ bs)

-- whether a line is well spaced: each of its parts between single spaces is a word
abbrev pub is_well_spaced : List ℕ → Bool
is_well_spaced line = list_all is_word (words_of line)

-- A line is well spaced: its bytes are in 32..126, neither its first nor its last is the space, and no two spaces stand beside each other.
pub record IsWellSpaced (line : List ℕ) : Type 0 where
  pub printable : (k : ℕ) → k < length line → (32 ≤ slice_index line k) × (slice_index line k ≤ 126)
  pub first : 0 < length line → slice_index line 0 ≢ 32
  pub last : 0 < length line → slice_index line (length line - 1) ≢ 32
  pub single : (k : ℕ) → k + 1 < length line → slice_index line k ≡ 32 → slice_index line (k + 1) ≢ 32
