-- A line that stands written, at hand for the next rung.
use Rattle.std.specs.Prelude.{◌≡◌, ℕ, List, [], ◌∷◌}
use Rattle.mat_sets.specs.declared.weight.Weight.{Weight}
use Rattle.mat_words.specs.Lines.{text_of}
use Rattle.mat_words.specs.Writing.{weights_line}

-- the bytes are the text of a line of a keyword and weights
abbrev pub IsWeightsLine : List ℕ → List Weight → List ℕ → Type 0
IsWeightsLine keyword weights bytes = bytes ≡ text_of (weights_line keyword weights ∷ [])
