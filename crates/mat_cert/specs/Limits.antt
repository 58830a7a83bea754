-- The limits of what a certificate may state.
use Rattle.std.specs.Prelude.{ℕ}

-- the most colours
abbrev pub most_colours : ℕ
most_colours = 500

-- the most rows of a table
abbrev pub most_rows : ℕ
most_rows = 500

-- the most columns of a table
abbrev pub most_columns : ℕ
most_columns = 500

-- the most different weights of a union's elements
abbrev pub most_levels : ℕ
most_levels = 500

-- the most bytes that a certificate may have
abbrev pub certificate_limit : ℕ
certificate_limit = 67108864
