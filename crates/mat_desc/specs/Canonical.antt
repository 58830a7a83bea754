-- The text of a problem that is written: the elements of each set in rising order, and everything else in its own order.
use Rattle.std.specs.Prelude.{ℕ, List, [], ◌∷◌, ◌++◌, length, map, codes, pos, None}
use Rattle.std.specs.List.{zip, flat_map}
use Rattle.mat_words.specs.Numbers.{numeral}
use Rattle.mat_words.specs.Lines.{Line, text_of}
use Rattle.mat_any.specs.Trees.{Tree, Trees, uniform, partition, laminar, graphic, transversal, gammoid, gf2, dual, truncate, restrict, contract, union, no_trees, more_trees, tree_count}
use Rattle.mat_words.specs.Writing.{end_line, members_line, weights_line}
use Rattle.mat_desc.specs.Grammar.{listing_line, ends_line, column_line, weighted_line, coloured_edge_line}
use Rattle.mat_desc.specs.Grammar.{version_line, name_lines, root_lines}
use Rattle.mat_problem.specs.Validity.{IsValid}
use Rattle.mat_desc.specs.Grammar.{pair_header, list_header, graph_header, rooted_header, coloured_header, table_header}
use Rattle.mat_problem.specs.Instances.{Instance, pair, list, graph, rooted, coloured, table}
use Rattle.mat_desc.specs.Notations.{Naming, words_for, Notation, numbers, names, element_naming, vertex_naming, IsNotationFor, NamedInstance}

-- the line of this keyword with a set and its cap
abbrev pub capped_line : Naming → List ℕ → List ℕ × ℕ → Line
capped_line naming key item = key ∷ numeral (pos item.1) ∷ words_for naming item.0

-- a line of this keyword for each set with its cap
abbrev pub capped_lines : Naming → List ℕ → List (List ℕ) → List ℕ → List Line
capped_lines naming key sets caps = map (capped_line naming key) (zip sets caps)

abbrev mutual
  -- the lines of a matroid, the members of whose sets of elements are written by this naming
  pub matroid_lines : Naming → Tree → List Line
  matroid_lines naming (uniform n cap) = (codes "uniform" ∷ numeral (pos cap) ∷ []) ∷ []
  matroid_lines naming (partition n classes caps) =
      (codes "partition" ∷ numeral (pos (length classes)) ∷ []) ∷ capped_lines naming (codes "class") classes caps
  matroid_lines naming (laminar n sets caps) =
      (codes "laminar" ∷ numeral (pos (length sets)) ∷ []) ∷ capped_lines naming (codes "set") sets caps
  matroid_lines naming (graphic vertices edges) =
      (codes "graphic" ∷ numeral (pos vertices) ∷ []) ∷ map (ends_line None (codes "edge")) edges
  matroid_lines naming (transversal n family) =
      (codes "transversal" ∷ numeral (pos (length family)) ∷ []) ∷ map (listing_line naming (codes "set")) family
  matroid_lines naming (gammoid vertices arcs sources targets) =
      (codes "gammoid" ∷ numeral (pos vertices) ∷ numeral (pos (length arcs)) ∷ [])
      ∷ members_line (codes "sources") sources ∷ members_line (codes "targets") targets ∷ map (ends_line None (codes "arc")) arcs
  matroid_lines naming (gf2 dim columns) = (codes "gf2" ∷ numeral (pos dim) ∷ []) ∷ map (column_line dim) columns
  matroid_lines naming (dual t) = (codes "dual" ∷ []) ∷ matroid_lines naming t
  matroid_lines naming (truncate cap t) = (codes "truncate" ∷ numeral (pos cap) ∷ []) ∷ matroid_lines naming t
  matroid_lines naming (restrict kept t) = listing_line naming (codes "restrict") kept ∷ matroid_lines naming t
  matroid_lines naming (contract away t) = listing_line naming (codes "contract") away ∷ matroid_lines naming t
  matroid_lines naming (union ts) = (codes "union" ∷ numeral (pos (tree_count ts)) ∷ []) ∷ tree_lines naming ts

  -- the lines of each matroid of a union
  pub tree_lines : Naming → Trees → List Line
  tree_lines naming no_trees = []
  tree_lines naming (more_trees t ts) = matroid_lines naming t ++ tree_lines naming ts

-- the line of a form
abbrev pub header : Notation → Instance → Line
header notation (pair weights first second) = pair_header (length weights)
header notation (list weights matroids) = list_header (length weights) (length matroids)
header notation (graph vertices edges) = graph_header vertices (length edges)
header notation (rooted vertices root arcs costs) = rooted_header notation vertices (length arcs) root
header notation (coloured vertices colours edges colour_of weights) = coloured_header vertices (length edges) colours
header notation (table rows columns cells weights) = table_header rows columns (length cells)

-- the lines behind the form line and those that list names
abbrev pub body_lines : Notation → Instance → List Line
body_lines notation (pair weights first second) = weights_line (codes "weights") weights
    ∷ (matroid_lines (element_naming notation) first ++ matroid_lines (element_naming notation) second)
body_lines notation (list weights matroids) =
    weights_line (codes "weights") weights ∷ flat_map (matroid_lines (element_naming notation)) matroids
body_lines notation (graph vertices edges) = map (ends_line (vertex_naming notation) (codes "edge")) edges
body_lines notation (rooted vertices root arcs costs) =
    root_lines notation root ++ map (weighted_line (vertex_naming notation) (codes "arc")) (zip arcs costs)
body_lines notation (coloured vertices colours edges colour_of weights) =
    map (coloured_edge_line (vertex_naming notation)) (zip edges (zip colour_of weights))
body_lines notation (table rows columns cells weights) = map (weighted_line None (codes "cell")) (zip cells weights)

-- what is written with names has to be in range, and to have a name for each element and each vertex
abbrev pub MayBeWritten : Notation → Instance → Type 0
MayBeWritten numbers instance = Unit {0}
MayBeWritten (names elements vertices) instance = IsValid instance × IsNotationFor instance (names elements vertices)

-- the lines of a problem in this notation
abbrev pub canonical_lines : Notation → Instance → List Line
canonical_lines notation instance =
    version_line notation ∷ header notation instance ∷ (name_lines notation ++ (body_lines notation instance ++ end_line ∷ []))

-- the canonical text of a problem
unfoldable pub canonical_text : Instance → List ℕ
canonical_text instance = text_of (canonical_lines numbers instance)

-- the canonical text of a problem with names for its elements and its vertices; a set rises by the numbers of its members, not by their names
unfoldable pub named_text : NamedInstance → List ℕ
named_text problem = text_of (canonical_lines (names problem.elements problem.vertices) problem.instance)
