-- Words in markup.
use Rattle.std.specs.Prelude.{ℕ, ◌==◌, ◌||◌, not, Bool, if◌then◌else◌, List, [], ◌∷◌, codes}
use Rattle.std.specs.List.{flat_map}

-- a byte, as an entity where markup gives it a meaning: & < > "
abbrev pub entity : ℕ → List ℕ
entity b = if b == 38 then codes "&amp;" else if b == 60 then codes "&lt;" else if b == 62 then codes "&gt;" else if b == 34 then codes "&quot;" else b ∷ []

-- words with the entity for each of their bytes
abbrev pub escaped : List ℕ → List ℕ
escaped words = flat_map entity words

-- whether a byte ends no text and no attribute: it is none of < > "
abbrev pub is_plain : ℕ → Bool
is_plain b = not (b == 60 || b == 62 || b == 34)
