-- Texts one after the other.
use Rattle.std.specs.Prelude.{ℕ, List, flat_map, pos}
use Rattle.std.specs.Global.{Vec}
use Rattle.mat_words.specs.Numbers.{numeral}
use Rattle.mat_judge.specs.declared.notes.Piece.{Piece}
use Rattle.mat_judge.specs.declared.notes.Piece.TheVariants as piece

-- pieces one after the other
abbrev pub joined : List (List ℕ) → List ℕ
joined pieces = flat_map (λ piece. piece) pieces

-- the texts one after the other
abbrev pub all_texts : List (Vec ℕ) → List ℕ
all_texts texts = flat_map (λ text. text.items) texts

-- what is written of a piece of a line
abbrev pub piece_text : Piece → List ℕ
piece_text (piece.Text bytes) = bytes.now
piece_text (piece.Number n) = numeral (pos n)
