-- How a description writes the elements and the vertices of a problem: by their numbers, or by names that it lists.
use Rattle.std.specs.Prelude.{◌≡◌, ℕ, List, ◌++◌, [], length, map, get_or, codes, pos, Option, Some, None}
use Rattle.mat_sets.specs.Sets.{all_below}
use Rattle.mat_words.specs.Numbers.{numeral}
use Rattle.mat_words.specs.Lines.{Line}
use Rattle.mat_words.specs.Names.{AreNames}
use Rattle.mat_problem.specs.Instances.{Instance, pair, list, graph, rooted, coloured, table}

-- the names of numbers from 0 on, where numbers are written by names
abbrev pub Naming : Type 0
Naming = Option (List (List ℕ))

-- the word for a number: its numeral, or its name
abbrev pub word_for : Naming → ℕ → List ℕ
word_for None x = numeral (pos x)
word_for (Some listed) x = get_or listed x []

-- the words for numbers
abbrev pub words_for : Naming → List ℕ → Line
words_for naming xs = map (word_for naming) xs

-- names, where there are any, are those of n numbers
abbrev pub IsNaming : ℕ → Naming → Type 0
IsNaming n None = Unit {0}
IsNaming n (Some listed) = AreNames listed × (length listed ≡ n)

-- how a description writes the elements and the vertices of a problem
pub data Notation : Type 0 where
  -- their numbers, in version 1
  numbers : Notation
  -- the names of the elements and those of the vertices, in version 2
  names : List (List ℕ) → List (List ℕ) → Notation

-- how elements are written
abbrev pub element_naming : Notation → Naming
element_naming numbers = None
element_naming (names elements vertices) = Some elements

-- how vertices are written
abbrev pub vertex_naming : Notation → Naming
vertex_naming numbers = None
vertex_naming (names elements vertices) = Some vertices

-- how many elements a problem has
abbrev pub count_of_elements : Instance → ℕ
count_of_elements (pair weights first second) = length weights
count_of_elements (list weights matroids) = length weights
count_of_elements (graph vertices edges) = length edges
count_of_elements (rooted vertices root arcs costs) = length arcs
count_of_elements (coloured vertices colours edges colour_of weights) = length edges
count_of_elements (table rows columns cells weights) = length cells

-- how many vertices its form has: 0 where it has none
abbrev pub count_of_vertices : Instance → ℕ
count_of_vertices (pair weights first second) = 0
count_of_vertices (list weights matroids) = 0
count_of_vertices (graph vertices edges) = vertices
count_of_vertices (rooted vertices root arcs costs) = vertices
count_of_vertices (coloured vertices colours edges colour_of weights) = vertices
count_of_vertices (table rows columns cells weights) = 0

-- the problem may be written so: where there are names, there is one for each element and for each vertex, and no other
abbrev pub IsNotationFor : Instance → Notation → Type 0
IsNotationFor instance notation =
    IsNaming (count_of_elements instance) (element_naming notation) × IsNaming (count_of_vertices instance) (vertex_naming notation)

-- a problem, and the names of its elements and of its vertices
pub record NamedInstance : Type 0 where
  pub instance : Instance
  pub elements : List (List ℕ)
  pub vertices : List (List ℕ)

-- a letter with each number below n
abbrev pub numbered : List ℕ → ℕ → List (List ℕ)
numbered letter n = map (λ i. letter ++ numeral (pos i)) (all_below n)

-- The problem with the names that the notation gives. Where it has numbers, the names are e0, e1 and so on, and v0, v1 and so on: none
-- for the vertices of a form that has no vertices.
abbrev pub named_by : Notation → Instance → NamedInstance
named_by numbers instance = record {
  instance = instance;
  elements = numbered (codes "e") (count_of_elements instance);
  vertices = numbered (codes "v") (count_of_vertices instance);
}
named_by (names elements vertices) instance = record { instance = instance; elements = elements; vertices = vertices }
