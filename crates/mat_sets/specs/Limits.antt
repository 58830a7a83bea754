-- The bounds of problems and of what is asked of them: sizes, weights, the weights that splits are made of, and the room that these have where
-- they begin to change.
use Rattle.std.specs.Prelude.{ℕ, ◌^◌}

-- the most elements, and so the most edges, arcs or cells of a form
abbrev pub most_elements : ℕ
most_elements = 500

-- the most vertices of a graph
abbrev pub most_vertices : ℕ
most_vertices = 500

-- the most matroids of a list or of a union
abbrev pub most_matroids : ℕ
most_matroids = 64

-- the most disjoint trees that can be asked for
abbrev pub most_trees : ℕ
most_trees = 64

-- the largest number of a weight or a cost, and with a `-` the smallest
abbrev pub largest_weight : ℕ
largest_weight = 10 ^ 12

-- the largest number of a weight of a split, and of what a certificate states; with a `-` the smallest
abbrev pub largest_number : ℕ
largest_number = 10 ^ 30

-- how far from 0 a number of the second part of a split may be where its weights begin to change: above what any printed rung has, and so far
-- below largest_number that the changes stay within that
abbrev pub split_room : ℕ
split_room = 10 ^ 25
