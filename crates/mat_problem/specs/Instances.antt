-- Problems as plain data.
use Rattle.std.specs.Prelude.{ℕ, List}
use Rattle.mat_sets.specs.declared.weight.Weight.{Weight}
use Rattle.mat_any.specs.Trees.{Tree}

-- a problem, by its form
pub data Instance : Type 0 where
  -- a weight for each element, and two matroids
  pair : List Weight → Tree → Tree → Instance
  -- a weight for each element, and a list of matroids
  list : List Weight → List Tree → Instance
  -- a number of vertices, and the ends of each edge
  graph : ℕ → List (ℕ × ℕ) → Instance
  -- a number of vertices, the root, the tail and the head of each arc, and the cost of each
  rooted : ℕ → ℕ → List (ℕ × ℕ) → List Weight → Instance
  -- a number of vertices, a number of colours, the ends of each edge, the colour of each, and the weight of each
  coloured : ℕ → ℕ → List (ℕ × ℕ) → List ℕ → List Weight → Instance
  -- a number of rows, a number of columns, the row and the column of each cell, and the weight of each
  table : ℕ → ℕ → List (ℕ × ℕ) → List Weight → Instance
