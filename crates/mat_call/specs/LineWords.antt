-- The words of a line, which need not be well spaced.
use Rattle.std.specs.Prelude.{ℕ, List, [], if◌then◌else◌}
use Rattle.mat_words.specs.Words.{words_of, is_well_spaced}

-- the words of a line that is well spaced, and none of any other
abbrev pub line_words : List ℕ → List (List ℕ)
line_words line = if is_well_spaced line then words_of line else []
