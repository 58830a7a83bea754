-- The limits of what a problem may state.
use Rattle.std.specs.Prelude.{ℕ}

-- the most sets of a family, and so the most classes, colours, rows or columns
abbrev pub most_sets : ℕ
most_sets = 500

-- the most arcs of a gammoid
abbrev pub most_arcs : ℕ
most_arcs = 20000

-- the most binary digits of a column
abbrev pub most_digits : ℕ
most_digits = 128

-- the most matroids that may stand within one another, the outermost one counted
abbrev pub deepest : ℕ
deepest = 16
