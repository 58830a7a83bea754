-- Which texts spell a problem.
use Rattle.std.specs.Prelude.{◌≡◌, ℕ, List, [], ◌∷◌, ◌++◌, length, map, codes, pos, Some, None}
use Rattle.std.specs.List.{zip}
use Rattle.mat_sets.specs.Sets.{is_member, AreDistinct}
use Rattle.mat_sets.specs.declared.weight.Weight.{Weight}
use Rattle.mat_words.specs.Numbers.{numeral}
use Rattle.mat_words.specs.Weights.{weight_word}
use Rattle.mat_words.specs.Lines.{Line, text_of}
use Rattle.mat_words.specs.Writing.{end_line, members_line, weights_line}
use Rattle.mat_any.specs.Trees.{Tree, Trees, uniform, partition, laminar, graphic, transversal, gammoid, gf2, dual, truncate, restrict, contract, union, no_trees, more_trees, tree_count}
use Rattle.mat_words.specs.Binary.{binary}
use Rattle.mat_problem.specs.Instances.{Instance, pair, list, graph, rooted, coloured, table}
use Rattle.mat_problem.specs.Validity.{IsValid}
use Rattle.mat_desc.specs.Notations.{Naming, word_for, words_for, Notation, numbers, names, element_naming, vertex_naming, IsNotationFor, NamedInstance, named_by}

-- xs lists the members of the set, each once, in any order
pub record Lists (xs set : List ℕ) : Type 0 where
  pub distinct : AreDistinct xs
  pub members : (x : ℕ) → is_member x xs ≡ is_member x set

-- a line of this keyword and the words for the members of a list
abbrev pub listing_line : Naming → List ℕ → List ℕ → Line
listing_line naming key xs = key ∷ words_for naming xs

-- a line of this keyword for each set with its cap, and then the rest
abbrev pub CappedLines : Naming → List ℕ → List (List ℕ) → List ℕ → List Line → List Line → Type 0
CappedLines naming key [] [] lines rest = lines ≡ rest
CappedLines naming key [] (cap ∷ caps) lines rest = ⊥
CappedLines naming key (set ∷ sets) [] lines rest = ⊥
CappedLines naming key (set ∷ sets) (cap ∷ caps) lines rest = (xs : List ℕ) × (more : List Line) × Lists xs set
    × (lines ≡ (key ∷ numeral (pos cap) ∷ words_for naming xs) ∷ more) × CappedLines naming key sets caps more rest

-- a line for each set of a family, and then the rest
abbrev pub FamilyLines : Naming → List (List ℕ) → List Line → List Line → Type 0
FamilyLines naming [] lines rest = lines ≡ rest
FamilyLines naming (set ∷ family) lines rest = (xs : List ℕ) × (more : List Line) × Lists xs set
    × (lines ≡ listing_line naming (codes "set") xs ∷ more) × FamilyLines naming family more rest

-- a line of this keyword and the ends of an edge or of an arc
abbrev pub ends_line : Naming → List ℕ → ℕ × ℕ → Line
ends_line naming key ends = key ∷ word_for naming ends.0 ∷ word_for naming ends.1 ∷ []

-- the line of a column of binary digits
abbrev pub column_line : ℕ → ℕ → Line
column_line dim column = codes "column" ∷ binary dim column ∷ []

abbrev mutual
  -- the lines of a matroid, and then the rest; the members of its sets of elements are written by this naming
  pub MatroidLines : Naming → Tree → List Line → List Line → Type 0
  MatroidLines naming (uniform n cap) lines rest = lines ≡ (codes "uniform" ∷ numeral (pos cap) ∷ []) ∷ rest
  MatroidLines naming (partition n classes caps) lines rest = (more : List Line)
      × (lines ≡ (codes "partition" ∷ numeral (pos (length classes)) ∷ []) ∷ more) × CappedLines naming (codes "class") classes caps more rest
  MatroidLines naming (laminar n sets caps) lines rest = (more : List Line)
      × (lines ≡ (codes "laminar" ∷ numeral (pos (length sets)) ∷ []) ∷ more) × CappedLines naming (codes "set") sets caps more rest
  MatroidLines naming (graphic vertices edges) lines rest =
      lines ≡ (codes "graphic" ∷ numeral (pos vertices) ∷ []) ∷ (map (ends_line None (codes "edge")) edges ++ rest)
  MatroidLines naming (transversal n family) lines rest = (more : List Line)
      × (lines ≡ (codes "transversal" ∷ numeral (pos (length family)) ∷ []) ∷ more) × FamilyLines naming family more rest
  MatroidLines naming (gammoid vertices arcs sources targets) lines rest = (xs : List ℕ) × Lists xs sources
      × (lines ≡ (codes "gammoid" ∷ numeral (pos vertices) ∷ numeral (pos (length arcs)) ∷ []) ∷ members_line (codes "sources") xs
      ∷ members_line (codes "targets") targets ∷ (map (ends_line None (codes "arc")) arcs ++ rest))
  MatroidLines naming (gf2 dim columns) lines rest =
      lines ≡ (codes "gf2" ∷ numeral (pos dim) ∷ []) ∷ (map (column_line dim) columns ++ rest)
  MatroidLines naming (dual t) lines rest = (more : List Line) × (lines ≡ (codes "dual" ∷ []) ∷ more) × MatroidLines naming t more rest
  MatroidLines naming (truncate cap t) lines rest = (more : List Line)
      × (lines ≡ (codes "truncate" ∷ numeral (pos cap) ∷ []) ∷ more) × MatroidLines naming t more rest
  MatroidLines naming (restrict kept t) lines rest = (xs : List ℕ) × (more : List Line) × Lists xs kept
      × (lines ≡ listing_line naming (codes "restrict") xs ∷ more) × MatroidLines naming t more rest
  MatroidLines naming (contract away t) lines rest = (xs : List ℕ) × (more : List Line) × Lists xs away
      × (lines ≡ listing_line naming (codes "contract") xs ∷ more) × MatroidLines naming t more rest
  MatroidLines naming (union ts) lines rest = (more : List Line)
      × (lines ≡ (codes "union" ∷ numeral (pos (tree_count ts)) ∷ []) ∷ more) × TreeLines naming ts more rest

  -- the lines of each matroid of a union, and then the rest
  pub TreeLines : Naming → Trees → List Line → List Line → Type 0
  TreeLines naming no_trees lines rest = lines ≡ rest
  TreeLines naming (more_trees t ts) lines rest = (more : List Line) × MatroidLines naming t lines more × TreeLines naming ts more rest

-- the lines of each matroid, and then the rest
abbrev pub MatroidsLines : Naming → List Tree → List Line → List Line → Type 0
MatroidsLines naming [] lines rest = lines ≡ rest
MatroidsLines naming (matroid ∷ matroids) lines rest =
    (more : List Line) × MatroidLines naming matroid lines more × MatroidsLines naming matroids more rest

-- the line of an arc with its cost, or of a cell with its weight
abbrev pub weighted_line : Naming → List ℕ → (ℕ × ℕ) × Weight → Line
weighted_line naming key item = key ∷ word_for naming item.0.0 ∷ word_for naming item.0.1 ∷ weight_word item.1 ∷ []

-- the line of an edge with its colour and its weight
abbrev pub coloured_edge_line : Naming → (ℕ × ℕ) × (ℕ × Weight) → Line
coloured_edge_line naming item =
    codes "edge" ∷ word_for naming item.0.0 ∷ word_for naming item.0.1 ∷ numeral (pos item.1.0) ∷ weight_word item.1.1 ∷ []

-- the first line of a text, which tells whether elements and vertices have names
abbrev pub version_line : Notation → Line
version_line numbers = codes "matroids" ∷ codes "1" ∷ []
version_line (names elements vertices) = codes "matroids" ∷ codes "2" ∷ []

-- the line of the names of vertices, where a form has vertices: it has at least one then
abbrev pub vertex_name_lines : List (List ℕ) → List Line
vertex_name_lines [] = []
vertex_name_lines (vertex ∷ vertices) = (codes "vertices" ∷ vertex ∷ vertices) ∷ []

-- the lines that list names
abbrev pub name_lines : Notation → List Line
name_lines numbers = []
name_lines (names elements vertices) = (codes "elements" ∷ elements) ∷ vertex_name_lines vertices

-- the word of the root in the form line, where vertices have no names
abbrev pub root_words : Notation → ℕ → Line
root_words numbers root = numeral (pos root) ∷ []
root_words (names elements vertices) root = []

-- the line of the root, where vertices have names
abbrev pub root_lines : Notation → ℕ → List Line
root_lines numbers root = []
root_lines (names elements vertices) root = (codes "root" ∷ word_for (Some vertices) root ∷ []) ∷ []

-- the line of two weighted matroids: the number of their elements
abbrev pub pair_header : ℕ → Line
pair_header count = codes "pair" ∷ numeral (pos count) ∷ []

-- the line of a list of weighted matroids: the number of their elements, and how many they are
abbrev pub list_header : ℕ → ℕ → Line
list_header count many = codes "list" ∷ numeral (pos count) ∷ numeral (pos many) ∷ []

-- the line of a graph: the numbers of its vertices and of its edges
abbrev pub graph_header : ℕ → ℕ → Line
graph_header vertices edges = codes "graph" ∷ numeral (pos vertices) ∷ numeral (pos edges) ∷ []

-- the line of a directed graph with a root: the numbers of its vertices and of its arcs, and the root where it has no name
abbrev pub rooted_header : Notation → ℕ → ℕ → ℕ → Line
rooted_header notation vertices arcs root = codes "rooted" ∷ numeral (pos vertices) ∷ numeral (pos arcs) ∷ root_words notation root

-- the line of a graph with coloured edges: the numbers of its vertices, of its edges and of its colours
abbrev pub coloured_header : ℕ → ℕ → ℕ → Line
coloured_header vertices edges colours = codes "coloured" ∷ numeral (pos vertices) ∷ numeral (pos edges) ∷ numeral (pos colours) ∷ []

-- the line of a table: the numbers of its rows, of its columns and of its cells
abbrev pub table_header : ℕ → ℕ → ℕ → Line
table_header rows columns cells = codes "table" ∷ numeral (pos rows) ∷ numeral (pos columns) ∷ numeral (pos cells) ∷ []

-- the lines of a problem in this notation
abbrev pub InstanceLines : Notation → Instance → List Line → Type 0
InstanceLines notation (pair weights first second) lines = (first_lines : List Line) × (second_lines : List Line)
    × (lines ≡ version_line notation ∷ pair_header (length weights) ∷ (name_lines notation ++ weights_line (codes "weights") weights ∷ first_lines))
    × MatroidLines (element_naming notation) first first_lines second_lines
    × MatroidLines (element_naming notation) second second_lines (end_line ∷ [])
InstanceLines notation (list weights matroids) lines = (matroid_lines : List Line)
    × (lines ≡ version_line notation ∷ list_header (length weights) (length matroids)
    ∷ (name_lines notation ++ weights_line (codes "weights") weights ∷ matroid_lines))
    × MatroidsLines (element_naming notation) matroids matroid_lines (end_line ∷ [])
InstanceLines notation (graph vertices edges) lines = lines ≡ version_line notation ∷ graph_header vertices (length edges)
    ∷ (name_lines notation ++ (map (ends_line (vertex_naming notation) (codes "edge")) edges ++ end_line ∷ []))
InstanceLines notation (rooted vertices root arcs costs) lines = lines ≡ version_line notation ∷ rooted_header notation vertices (length arcs) root
    ∷ (name_lines notation ++ (root_lines notation root
    ++ (map (weighted_line (vertex_naming notation) (codes "arc")) (zip arcs costs) ++ end_line ∷ [])))
InstanceLines notation (coloured vertices colours edges colour_of weights) lines =
    lines ≡ version_line notation ∷ coloured_header vertices (length edges) colours
    ∷ (name_lines notation ++ (map (coloured_edge_line (vertex_naming notation)) (zip edges (zip colour_of weights)) ++ end_line ∷ []))
InstanceLines notation (table rows columns cells weights) lines = lines ≡ version_line notation ∷ table_header rows columns (length cells)
    ∷ (name_lines notation ++ (map (weighted_line None (codes "cell")) (zip cells weights) ++ end_line ∷ []))

-- The text spells the problem: the problem is in range, and the text is the text of its lines, in version 1 or, with some names, in
-- version 2.
pub record Spells (text : List ℕ) (instance : Instance) : Type 0 where
  pub valid : IsValid instance
  pub notation : Notation
  pub notated : IsNotationFor instance notation
  pub lines : List Line
  pub spelled : InstanceLines notation instance lines
  pub whole : text ≡ text_of lines

-- the text spells the problem, and gives its elements and its vertices these names or, in version 1, numbers that are called so
pub record SpellsNamed (text : List ℕ) (problem : NamedInstance) : Type 0 where
  pub spells : Spells text problem.instance
  pub named : problem ≡ named_by spells.notation problem.instance
