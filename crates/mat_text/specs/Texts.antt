-- What a told text is made of.
use Rattle.std.specs.Prelude.{◌≡◌, ℕ, ◌==◌, ◌||◌, ◌&&◌, nat_le, Bool, true, if◌then◌else◌, List, [], ◌∷◌, length}
use Rattle.std.specs.List.{list_all}

-- whether a byte may stand in a text: a line feed, or a printable byte, one from 32 to 126
abbrev pub is_text_byte : ℕ → Bool
is_text_byte b = b == 10 || (nat_le 32 b && nat_le b 126)

-- what stands between a head and the words of a list: a full stop where the list is empty, and else a colon
abbrev pub end_of_head : List ℕ → List ℕ
end_of_head words = if length words == 0 then 46 ∷ [] else 58 ∷ []

-- a text of printable lines
abbrev pub IsPrintable : List ℕ → Type 0
IsPrintable text = list_all is_text_byte text ≡ true
