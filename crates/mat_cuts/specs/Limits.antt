-- The limits of the graphs whose cheapest arborescences are sought, above those of a description.
use Rattle.std.specs.Prelude.{ℕ}

-- the most vertices
abbrev pub vertex_bound : ℕ
vertex_bound = 2000

-- the most arcs
abbrev pub arc_bound : ℕ
arc_bound = 20000

-- the most weighted vertex sets: twice as many as vertices
abbrev pub cut_bound : ℕ
cut_bound = 4000

-- a time that does not come, and the place of a vertex that is not seen: above the most weighted vertex sets and the most vertices
abbrev pub never : ℕ
never = 1000000
