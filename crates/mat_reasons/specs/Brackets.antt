-- Words in brackets.
use Rattle.std.specs.Prelude.{◌≡◌, ℕ, ◌⊎◌, List, [], ◌∷◌, ◌++◌}

-- nothing, or words in brackets behind a space
abbrev pub IsInBrackets : List ℕ → Type 0
IsInBrackets bytes = (bytes ≡ []) ⊎ ((words : List ℕ) × (bytes ≡ 32 ∷ 40 ∷ words ++ 41 ∷ []))
