-- Reading a description: the problem that a text spells, or its first fault. Each function takes what is left of the text or of a line, and
-- the order of its lines is the order in which faults are looked for.
use Rattle.std.specs.Prelude.{ℕ, zero, suc, ◌==◌, pos, neg_ℤ, nat_lt}
use Rattle.std.specs.Prelude.{if◌then◌else◌, List, [], ◌∷◌, ◌++◌, length, map, codes, bytes_eq}
use Rattle.std.specs.Prelude.{Option, Some, None, Result, Ok, Err}
use Rattle.mat_sets.specs.Sets.{is_member, with_one}
use Rattle.mat_words.specs.Lines.{lines_of}
use Rattle.mat_words.specs.Reading as reading
use Rattle.mat_sets.specs.declared.weight.Weight.{Weight}
use Rattle.mat_count.specs.Laminar.{is_crossed}
use Rattle.mat_any.specs.Trees.{Tree, uniform, partition, laminar, graphic, transversal, gammoid, gf2, dual, truncate, restrict, contract, union, trees_from}
use Rattle.mat_desc.specs.declared.refusal.DescKind.TheVariants as kinds
use Rattle.mat_desc.specs.declared.read.keywords.Form.{Form}
use Rattle.mat_desc.specs.declared.read.keywords.Form.TheVariants as forms
use Rattle.mat_desc.specs.declared.read.keywords.Version.{Version}
use Rattle.mat_desc.specs.declared.read.keywords.Version.TheVariants as versions
use Rattle.mat_desc.specs.declared.read.keywords.Keyword.{Keyword}
use Rattle.mat_desc.specs.declared.read.keywords.Keyword.TheVariants as keywords
use Rattle.mat_words.specs.Cursors.{WordsLeft, LinesLeft}
use Rattle.mat_words.specs.Names.{longest_name, name_index, is_among}
use Rattle.mat_words.specs.Steps.{◌>>=◌, repeat_at}
use Rattle.mat_desc.specs.Faults.{Fault, told}
use Rattle.mat_problem.specs.Limits.{most_sets, most_arcs, most_digits, deepest}
use Rattle.mat_sets.specs.Limits.{largest_weight, most_vertices, most_elements, most_matroids}
use Rattle.mat_problem.specs.Instances.{Instance, pair, list, graph, rooted, coloured, table}
use Rattle.mat_desc.specs.Notations.{Naming, Notation, numbers, names, element_naming, vertex_naming, NamedInstance, named_by}

-- ---- lines and words

-- the words of the next line, and the lines behind it
abbrev pub line_at : LinesLeft → Result (WordsLeft × LinesLeft) Fault
line_at p = told (reading.line_at p)

-- a line that begins with this word: the words behind it, and the lines behind it
abbrev pub keyed_at : List ℕ → LinesLeft → Result (WordsLeft × LinesLeft) Fault
keyed_at key p = told (reading.keyed_at key p)

-- the next word, and the words behind it
abbrev pub word_at : WordsLeft → Result (List ℕ × WordsLeft) Fault
word_at p = told (reading.word_at p)

-- the next word as a number in low..most
abbrev pub size_at : ℕ → ℕ → WordsLeft → Result (ℕ × WordsLeft) Fault
size_at low most p = told (reading.size_at low most p)

-- the next word as a number below the bound
abbrev pub below_at : ℕ → WordsLeft → Result (ℕ × WordsLeft) Fault
below_at bound p = told (reading.below_at bound p)

-- the next word as a number of so many binary digits
abbrev pub binary_at : ℕ → WordsLeft → Result (ℕ × WordsLeft) Fault
binary_at digits p = told (reading.binary_at digits p)

-- the next word as a weight
abbrev pub weight_at : WordsLeft → Result (Weight × WordsLeft) Fault
weight_at p = told (reading.weight_at (neg_ℤ (pos largest_weight)) (pos largest_weight) p)

-- the next words as so many weights
abbrev pub next_weights_at : ℕ → WordsLeft → Result (List Weight × WordsLeft) Fault
next_weights_at n p = told (reading.weights_at (neg_ℤ (pos largest_weight)) (pos largest_weight) n p)

-- no word of line n may be left
abbrev pub ended_from : ℕ → List (List ℕ) → Result (Unit {0}) Fault
ended_from n words = if length words == 0 then Ok tt else Err (kinds.TooManyWords, n)

-- no word may be left
unfoldable pub ended_at : WordsLeft → Result (Unit {0}) Fault
ended_at p = ended_from p.line p.words

-- what a word that names a number is taken for, with the words behind it
abbrev pub named_as : WordsLeft → Option ℕ → Result (ℕ × WordsLeft) Fault
named_as rest None = Err (kinds.UnknownName, rest.line)
named_as rest (Some x) = Ok (x, rest)

-- the next word as a number below the bound: by its numeral, or by its name where numbers have names, which are as many as the bound
unfoldable pub member_at : Naming → ℕ → WordsLeft → Result (ℕ × WordsLeft) Fault
member_at None bound p = below_at bound p
member_at (Some listed) bound p = word_at p >>= λ word. named_as word.1 (name_index listed word.0)

-- The set of elements below n that the words left of line number `line` list, added to `set`, and `taken` with the same elements added. An
-- element that is in `taken` already is the fault `Repeated`.
unfoldable pub elements_from : Naming → ℕ → ℕ → List ℕ → List ℕ → List (List ℕ) → Result (List ℕ × List ℕ) Fault
elements_from naming n line taken set [] = Ok (set, taken)
elements_from naming n line taken set (word ∷ words) = do
  element ← member_at naming n (record { line = line; words = word ∷ words })
  if is_member element.0 taken then Err (kinds.Repeated, line) else
      elements_from naming n line (with_one taken element.0) (with_one set element.0) words

-- the set of the elements below n that are left of a line, and what is taken behind it
abbrev pub elements_at : Naming → ℕ → List ℕ → WordsLeft → Result (List ℕ × List ℕ) Fault
elements_at naming n taken p = elements_from naming n p.line taken [] p.words

-- ---- lines of a kind

-- the version that a word names, if it names one
abbrev pub version_of : List ℕ → Option Version
version_of word = if bytes_eq word (codes "1") then Some versions.One else (if bytes_eq word (codes "2") then Some versions.Two else None)

-- the version, from the words behind its word in line number `line` on
abbrev pub version_named : ℕ → Option Version → WordsLeft → LinesLeft → Result (Version × LinesLeft) Fault
version_named line None words lines = Err (kinds.Version, line)
version_named line (Some version) words lines = ended_at words >>= λ end. Ok (version, lines)

-- the first line, which names the version
unfoldable pub version_at : LinesLeft → Result (Version × LinesLeft) Fault
version_at p = do
  line ← keyed_at (codes "matroids") p
  word ← word_at line.0
  version_named p.line (version_of word.0) word.1 line.1

-- the weights line of n elements
unfoldable pub weights_at : ℕ → LinesLeft → Result (List Weight × LinesLeft) Fault
weights_at n p = do
  line ← keyed_at (codes "weights") p
  weights ← next_weights_at n line.0
  end ← ended_at weights.1
  Ok (weights.0, line.1)

-- the last line
unfoldable pub end_at : LinesLeft → Result LinesLeft Fault
end_at p = do
  line ← keyed_at (codes "end") p
  end ← ended_at line.0
  Ok line.1

-- the end of the text, behind the last line
unfoldable pub closed_at : LinesLeft → Result (Unit {0}) Fault
closed_at p = if reading.is_closed p.lines then Ok tt else Err (kinds.TooManyLines, p.line)

-- ---- names

-- the names `listed` with `many` more behind them, none of which stands twice
unfoldable pub names_from : ℕ → List (List ℕ) → WordsLeft → Result (List (List ℕ) × WordsLeft) Fault
names_from zero listed p = Ok (listed, p)
names_from (suc many) listed p = do
  word ← word_at p
  if nat_lt longest_name (length word.0) then Err (kinds.NameSpelling, p.line) else
      (if is_among listed word.0 then Err (kinds.Repeated, p.line) else names_from many (listed ++ word.0 ∷ []) word.1)

-- a line of this keyword and as many names
unfoldable pub names_line_at : List ℕ → ℕ → LinesLeft → Result (List (List ℕ) × LinesLeft) Fault
names_line_at key many p = do
  line ← keyed_at key p
  listed ← names_from many [] line.0
  end ← ended_at listed.1
  Ok (listed.0, line.1)

-- the names of so many vertices, which have a line where there are any; a form without vertices has 0
unfoldable pub vertex_names_at : ℕ → LinesLeft → Result (List (List ℕ) × LinesLeft) Fault
vertex_names_at zero p = Ok ([], p)
vertex_names_at (suc vertices) p = names_line_at (codes "vertices") (suc vertices) p

-- how so many elements and vertices are written: in version 1 by their numbers, and no line, and in version 2 by the names that it lists
unfoldable pub notation_at : Version → ℕ → ℕ → LinesLeft → Result (Notation × LinesLeft) Fault
notation_at versions.One elements vertices p = Ok (numbers, p)
notation_at versions.Two elements vertices p = do
  first ← names_line_at (codes "elements") elements p
  second ← vertex_names_at vertices first.1
  Ok (names first.0 second.0, second.1)

-- ---- matroids

-- a class line of a partition of n elements: the cap, the class, what is taken behind it, and the lines behind it
unfoldable pub class_at : Naming → ℕ → List ℕ → LinesLeft → Result (ℕ × List ℕ × List ℕ × LinesLeft) Fault
class_at naming n taken p = do
  line ← keyed_at (codes "class") p
  cap ← size_at 0 most_elements line.0
  elements ← elements_at naming n taken cap.1
  Ok (cap.0, elements.0, elements.1, line.1)

-- as many class lines, no two of which share an element: the classes, their caps, and the lines behind them
unfoldable pub classes_at : Naming → ℕ → ℕ → List ℕ → LinesLeft → Result (List (List ℕ) × List ℕ × LinesLeft) Fault
classes_at naming n zero taken p = Ok ([], [], p)
classes_at naming n (suc many) taken p = do
  first ← class_at naming n taken p
  others ← classes_at naming n many first.2 first.3
  Ok (first.1 ∷ others.0, first.0 ∷ others.1, others.2)

-- a uniform matroid on n elements, from the words behind its keyword on
unfoldable pub uniform_at : ℕ → WordsLeft → LinesLeft → Result (Tree × LinesLeft) Fault
uniform_at n words lines = do
  cap ← size_at 0 most_elements words
  end ← ended_at cap.1
  Ok (uniform n cap.0, lines)

-- a partition matroid on n elements, from the words behind its keyword on
unfoldable pub partition_at : Naming → ℕ → WordsLeft → LinesLeft → Result (Tree × LinesLeft) Fault
partition_at naming n words lines = do
  many ← size_at 0 most_sets words
  end ← ended_at many.1
  classes ← classes_at naming n many.0 [] lines
  Ok (partition n classes.0 classes.1, classes.2)

-- a set line of a laminar family on n elements, of which the earlier sets are given: the cap, the set, and the lines behind it
unfoldable pub nested_set_at : Naming → ℕ → List (List ℕ) → LinesLeft → Result (ℕ × List ℕ × LinesLeft) Fault
nested_set_at naming n earlier p = do
  line ← keyed_at (codes "set") p
  cap ← size_at 0 most_elements line.0
  elements ← elements_at naming n [] cap.1
  if is_crossed earlier elements.0 then Err (kinds.Crossing, p.line) else Ok (cap.0, elements.0, line.1)

-- as many set lines, no two of which cross: the sets, their caps, and the lines behind them
unfoldable pub nested_sets_at : Naming → ℕ → ℕ → List (List ℕ) → LinesLeft → Result (List (List ℕ) × List ℕ × LinesLeft) Fault
nested_sets_at naming n zero earlier p = Ok ([], [], p)
nested_sets_at naming n (suc many) earlier p = do
  first ← nested_set_at naming n earlier p
  others ← nested_sets_at naming n many (earlier ++ first.1 ∷ []) first.2
  Ok (first.1 ∷ others.0, first.0 ∷ others.1, others.2)

-- a laminar matroid on n elements, from the words behind its keyword on
unfoldable pub laminar_at : Naming → ℕ → WordsLeft → LinesLeft → Result (Tree × LinesLeft) Fault
laminar_at naming n words lines = do
  many ← size_at 0 most_sets words
  end ← ended_at many.1
  sets ← nested_sets_at naming n many.0 [] lines
  Ok (laminar n sets.0 sets.1, sets.2)

-- the words for two numbers, the first below the first bound and the second below the second
unfoldable pub ends_at : Naming → ℕ → ℕ → WordsLeft → Result ((ℕ × ℕ) × WordsLeft) Fault
ends_at naming first_bound second_bound words = do
  first ← member_at naming first_bound words
  second ← member_at naming second_bound first.1
  Ok ((first.0, second.0), second.1)

-- a line of this keyword with the two ends of an edge or of an arc
unfoldable pub ends_line_at : Naming → List ℕ → ℕ → LinesLeft → Result ((ℕ × ℕ) × LinesLeft) Fault
ends_line_at naming key vertices p = do
  line ← keyed_at key p
  ends ← ends_at naming vertices vertices line.0
  end ← ended_at ends.1
  Ok (ends.0, line.1)

-- a graphic matroid on n elements, from the words behind its keyword on
unfoldable pub graphic_at : ℕ → WordsLeft → LinesLeft → Result (Tree × LinesLeft) Fault
graphic_at n words lines = do
  vertices ← size_at 1 most_vertices words
  end ← ended_at vertices.1
  edges ← repeat_at (ends_line_at None (codes "edge") vertices.0) n lines
  Ok (graphic vertices.0 edges.0, edges.1)

-- a line of this keyword and a set of numbers below n
unfoldable pub set_line_at : Naming → List ℕ → ℕ → LinesLeft → Result (List ℕ × LinesLeft) Fault
set_line_at naming key n p = do
  line ← keyed_at key p
  set ← elements_at naming n [] line.0
  Ok (set.0, line.1)

-- a transversal matroid on n elements, from the words behind its keyword on
unfoldable pub transversal_at : Naming → ℕ → WordsLeft → LinesLeft → Result (Tree × LinesLeft) Fault
transversal_at naming n words lines = do
  many ← size_at 0 most_sets words
  end ← ended_at many.1
  family ← repeat_at (set_line_at naming (codes "set") n) many.0 lines
  Ok (transversal n family.0, family.1)

-- as many numbers below the bound, none of which is in `taken` or stands twice
unfoldable pub distinct_at : ℕ → ℕ → List ℕ → WordsLeft → Result (List ℕ × WordsLeft) Fault
distinct_at bound zero taken p = Ok ([], p)
distinct_at bound (suc many) taken p = do
  first ← below_at bound p
  if is_member first.0 taken then Err (kinds.Repeated, p.line) else
      (distinct_at bound many (with_one taken first.0) first.1 >>= λ others. Ok (first.0 ∷ others.0, others.1))

-- the line of the vertices of n elements, all different
unfoldable pub targets_at : ℕ → ℕ → LinesLeft → Result (List ℕ × LinesLeft) Fault
targets_at vertices n p = do
  line ← keyed_at (codes "targets") p
  targets ← distinct_at vertices n [] line.0
  end ← ended_at targets.1
  Ok (targets.0, line.1)

-- a gammoid of n elements, from the words behind its keyword on
unfoldable pub gammoid_at : ℕ → WordsLeft → LinesLeft → Result (Tree × LinesLeft) Fault
gammoid_at n words lines = do
  vertices ← size_at 1 most_vertices words
  many ← size_at 0 most_arcs vertices.1
  end ← ended_at many.1
  sources ← set_line_at None (codes "sources") vertices.0 lines
  targets ← targets_at vertices.0 n sources.1
  arcs ← repeat_at (ends_line_at None (codes "arc") vertices.0) many.0 targets.1
  Ok (gammoid vertices.0 arcs.0 sources.0 targets.0, arcs.1)

-- a column line
unfoldable pub column_at : ℕ → LinesLeft → Result (ℕ × LinesLeft) Fault
column_at dim p = do
  line ← keyed_at (codes "column") p
  column ← binary_at dim line.0
  end ← ended_at column.1
  Ok (column.0, line.1)

-- a matroid of n columns over the field of two elements, from the words behind its keyword on
unfoldable pub gf2_at : ℕ → WordsLeft → LinesLeft → Result (Tree × LinesLeft) Fault
gf2_at n words lines = do
  dim ← size_at 1 most_digits words
  end ← ended_at dim.1
  columns ← repeat_at (column_at dim.0) n lines
  Ok (gf2 dim.0 columns.0, columns.1)

-- what reads a matroid from a line on, and the lines behind it
abbrev pub TreeReader : Type 0
TreeReader = LinesLeft → Result (Tree × LinesLeft) Fault

-- the dual of a matroid, from the words behind its keyword on; `inner` reads the matroid within
unfoldable pub dual_at : TreeReader → WordsLeft → LinesLeft → Result (Tree × LinesLeft) Fault
dual_at inner words lines = do
  end ← ended_at words
  t ← inner lines
  Ok (dual t.0, t.1)

-- a truncation, from the words behind its keyword on; `inner` reads the matroid within
unfoldable pub truncate_at : TreeReader → WordsLeft → LinesLeft → Result (Tree × LinesLeft) Fault
truncate_at inner words lines = do
  cap ← size_at 0 most_elements words
  end ← ended_at cap.1
  t ← inner lines
  Ok (truncate cap.0 t.0, t.1)

-- a restriction on n elements, from the words behind its keyword on; `inner` reads the matroid within
unfoldable pub restrict_at : TreeReader → Naming → ℕ → WordsLeft → LinesLeft → Result (Tree × LinesLeft) Fault
restrict_at inner naming n words lines = do
  kept ← elements_at naming n [] words
  t ← inner lines
  Ok (restrict kept.0 t.0, t.1)

-- a contraction on n elements, from the words behind its keyword on; `inner` reads the matroid within
unfoldable pub contract_at : TreeReader → Naming → ℕ → WordsLeft → LinesLeft → Result (Tree × LinesLeft) Fault
contract_at inner naming n words lines = do
  away ← elements_at naming n [] words
  t ← inner lines
  Ok (contract away.0 t.0, t.1)

-- a union, from the words behind its keyword on; `inner` reads each matroid within
unfoldable pub union_at : TreeReader → WordsLeft → LinesLeft → Result (Tree × LinesLeft) Fault
union_at inner words lines = do
  many ← size_at 1 most_matroids words
  end ← ended_at many.1
  matroids ← repeat_at inner many.0 lines
  Ok (union (trees_from matroids.0), matroids.1)

-- the keyword of a matroid that a word is, if it is one
abbrev pub keyword_of : List ℕ → Option Keyword
keyword_of word = if bytes_eq word (codes "uniform") then Some keywords.Uniform else
    (if bytes_eq word (codes "partition") then Some keywords.Partition else
    (if bytes_eq word (codes "laminar") then Some keywords.Laminar else
    (if bytes_eq word (codes "graphic") then Some keywords.Graphic else
    (if bytes_eq word (codes "transversal") then Some keywords.Transversal else
    (if bytes_eq word (codes "gammoid") then Some keywords.Gammoid else
    (if bytes_eq word (codes "gf2") then Some keywords.Gf2 else
    (if bytes_eq word (codes "dual") then Some keywords.Dual else
    (if bytes_eq word (codes "truncate") then Some keywords.Truncate else
    (if bytes_eq word (codes "restrict") then Some keywords.Restrict else
    (if bytes_eq word (codes "contract") then Some keywords.Contract else
    (if bytes_eq word (codes "union") then Some keywords.Union else None)))))))))))

-- a matroid on n elements, from the words behind its keyword in line number `line` on; `inner` reads a matroid within it
abbrev pub kind_at : TreeReader → Naming → ℕ → ℕ → Option Keyword → WordsLeft → LinesLeft → Result (Tree × LinesLeft) Fault
kind_at inner naming n line None words lines = Err (kinds.UnknownWord, line)
kind_at inner naming n line (Some keywords.Uniform) words lines = uniform_at n words lines
kind_at inner naming n line (Some keywords.Partition) words lines = partition_at naming n words lines
kind_at inner naming n line (Some keywords.Laminar) words lines = laminar_at naming n words lines
kind_at inner naming n line (Some keywords.Graphic) words lines = graphic_at n words lines
kind_at inner naming n line (Some keywords.Transversal) words lines = transversal_at naming n words lines
kind_at inner naming n line (Some keywords.Gammoid) words lines = gammoid_at n words lines
kind_at inner naming n line (Some keywords.Gf2) words lines = gf2_at n words lines
kind_at inner naming n line (Some keywords.Dual) words lines = dual_at inner words lines
kind_at inner naming n line (Some keywords.Truncate) words lines = truncate_at inner words lines
kind_at inner naming n line (Some keywords.Restrict) words lines = restrict_at inner naming n words lines
kind_at inner naming n line (Some keywords.Contract) words lines = contract_at inner naming n words lines
kind_at inner naming n line (Some keywords.Union) words lines = union_at inner words lines

-- A matroid on n elements, in which at most so many matroids stand within one another. Where there is no room for one more, its line is
-- still needed, has to be well spaced and to have words, and is then too deep, whatever its words are.
unfoldable pub matroid_within : ℕ → Naming → ℕ → LinesLeft → Result (Tree × LinesLeft) Fault
matroid_within zero naming n p = line_at p >>= λ line. Err (kinds.TooDeep, p.line)
matroid_within (suc room) naming n p = do
  line ← line_at p
  word ← word_at line.0
  kind_at (matroid_within room naming n) naming n p.line (keyword_of word.0) word.1 line.1

-- a matroid on n elements
abbrev pub matroid_at : Naming → ℕ → LinesLeft → Result (Tree × LinesLeft) Fault
matroid_at naming n p = matroid_within deepest naming n p

-- two matroids on n elements
unfoldable pub two_matroids_at : Naming → ℕ → LinesLeft → Result ((Tree × Tree) × LinesLeft) Fault
two_matroids_at naming n p = do
  first ← matroid_at naming n p
  second ← matroid_at naming n first.1
  Ok ((first.0, second.0), second.1)

-- ---- problems

-- a problem, and how its description writes its elements and its vertices
pub record WrittenInstance : Type 0 where
  pub instance : Instance
  pub notation : Notation

-- two weighted matroids, from the words behind the form's word on
unfoldable pub pair_at : Version → WordsLeft → LinesLeft → Result (WrittenInstance × LinesLeft) Fault
pair_at version words lines = do
  count ← size_at 0 most_elements words
  end ← ended_at count.1
  notation ← notation_at version count.0 0 lines
  weights ← weights_at count.0 notation.1
  matroids ← two_matroids_at (element_naming notation.0) count.0 weights.1
  Ok (record { instance = pair weights.0 matroids.0.0 matroids.0.1; notation = notation.0 }, matroids.1)

-- a list of matroids, from the words behind the form's word on
unfoldable pub list_at : Version → WordsLeft → LinesLeft → Result (WrittenInstance × LinesLeft) Fault
list_at version words lines = do
  count ← size_at 0 most_elements words
  many ← size_at 1 most_matroids count.1
  end ← ended_at many.1
  notation ← notation_at version count.0 0 lines
  weights ← weights_at count.0 notation.1
  matroids ← repeat_at (matroid_at (element_naming notation.0) count.0) many.0 weights.1
  Ok (record { instance = list weights.0 matroids.0; notation = notation.0 }, matroids.1)

-- a line of this keyword with the words for two numbers, and a weight: an arc with its cost, or a cell with its weight
unfoldable pub weighted_at : Naming → List ℕ → ℕ → ℕ → LinesLeft → Result (((ℕ × ℕ) × Weight) × LinesLeft) Fault
weighted_at naming key first_bound second_bound p = do
  line ← keyed_at key p
  ends ← ends_at naming first_bound second_bound line.0
  weight ← weight_at ends.1
  end ← ended_at weight.1
  Ok ((ends.0, weight.0), line.1)

-- an edge line with a colour and a weight
unfoldable pub coloured_edge_at : Naming → ℕ → ℕ → LinesLeft → Result (((ℕ × ℕ) × (ℕ × Weight)) × LinesLeft) Fault
coloured_edge_at naming vertices colours p = do
  line ← keyed_at (codes "edge") p
  ends ← ends_at naming vertices vertices line.0
  colour ← below_at colours ends.1
  weight ← weight_at colour.1
  end ← ended_at weight.1
  Ok ((ends.0, (colour.0, weight.0)), line.1)

-- a graph, from the words behind the form's word on
unfoldable pub graph_at : Version → WordsLeft → LinesLeft → Result (WrittenInstance × LinesLeft) Fault
graph_at version words lines = do
  vertices ← size_at 1 most_vertices words
  many ← size_at 0 most_elements vertices.1
  end ← ended_at many.1
  notation ← notation_at version many.0 vertices.0 lines
  edges ← repeat_at (ends_line_at (vertex_naming notation.0) (codes "edge") vertices.0) many.0 notation.1
  Ok (record { instance = graph vertices.0 edges.0; notation = notation.0 }, edges.1)

-- the root, which stands in the form line in version 1; in version 2 it doesn't, and this is None
unfoldable pub header_root_at : Version → ℕ → WordsLeft → Result (Option ℕ × WordsLeft) Fault
header_root_at versions.One vertices words = below_at vertices words >>= λ root. Ok (Some root.0, root.1)
header_root_at versions.Two vertices words = Ok (None, words)

-- the root, which has a line of its own where it isn't known from the form line
unfoldable pub root_at : Naming → ℕ → Option ℕ → LinesLeft → Result (ℕ × LinesLeft) Fault
root_at naming vertices (Some root) p = Ok (root, p)
root_at naming vertices None p = do
  line ← keyed_at (codes "root") p
  root ← member_at naming vertices line.0
  end ← ended_at root.1
  Ok (root.0, line.1)

-- a directed graph with a root, from the words behind the form's word on
unfoldable pub rooted_at : Version → WordsLeft → LinesLeft → Result (WrittenInstance × LinesLeft) Fault
rooted_at version words lines = do
  vertices ← size_at 1 most_vertices words
  many ← size_at 0 most_elements vertices.1
  known ← header_root_at version vertices.0 many.1
  end ← ended_at known.1
  notation ← notation_at version many.0 vertices.0 lines
  root ← root_at (vertex_naming notation.0) vertices.0 known.0 notation.1
  arcs ← repeat_at (weighted_at (vertex_naming notation.0) (codes "arc") vertices.0 vertices.0) many.0 root.1
  Ok (record { instance = rooted vertices.0 root.0 (map (λ arc. arc.0) arcs.0) (map (λ arc. arc.1) arcs.0); notation = notation.0 }, arcs.1)

-- a graph with coloured edges, from the words behind the form's word on
unfoldable pub coloured_at : Version → WordsLeft → LinesLeft → Result (WrittenInstance × LinesLeft) Fault
coloured_at version words lines = do
  vertices ← size_at 1 most_vertices words
  many ← size_at 0 most_elements vertices.1
  colours ← size_at 0 most_sets many.1
  end ← ended_at colours.1
  notation ← notation_at version many.0 vertices.0 lines
  edges ← repeat_at (coloured_edge_at (vertex_naming notation.0) vertices.0 colours.0) many.0 notation.1
  Ok (
    record {
      instance = coloured vertices.0 colours.0 (map (λ edge. edge.0) edges.0) (map (λ edge. edge.1.0) edges.0) (map (λ edge. edge.1.1) edges.0);
      notation = notation.0;
    },
    edges.1,
  )

-- a table of cells, from the words behind the form's word on
unfoldable pub table_at : Version → WordsLeft → LinesLeft → Result (WrittenInstance × LinesLeft) Fault
table_at version words lines = do
  rows ← size_at 0 most_sets words
  columns ← size_at 0 most_sets rows.1
  many ← size_at 0 most_elements columns.1
  end ← ended_at many.1
  notation ← notation_at version many.0 0 lines
  cells ← repeat_at (weighted_at None (codes "cell") rows.0 columns.0) many.0 notation.1
  Ok (record { instance = table rows.0 columns.0 (map (λ cell. cell.0) cells.0) (map (λ cell. cell.1) cells.0); notation = notation.0 }, cells.1)

-- the form that a word names, if it names one
abbrev pub form_of : List ℕ → Option Form
form_of word = if bytes_eq word (codes "pair") then Some forms.Pair else
    (if bytes_eq word (codes "list") then Some forms.List else
    (if bytes_eq word (codes "graph") then Some forms.Graph else
    (if bytes_eq word (codes "rooted") then Some forms.Rooted else
    (if bytes_eq word (codes "coloured") then Some forms.Coloured else
    (if bytes_eq word (codes "table") then Some forms.Table else None)))))

-- a problem, from the words behind the form's word in line number `line` on
abbrev pub form_at : Version → ℕ → Option Form → WordsLeft → LinesLeft → Result (WrittenInstance × LinesLeft) Fault
form_at version line None words lines = Err (kinds.UnknownWord, line)
form_at version line (Some forms.Pair) words lines = pair_at version words lines
form_at version line (Some forms.List) words lines = list_at version words lines
form_at version line (Some forms.Graph) words lines = graph_at version words lines
form_at version line (Some forms.Rooted) words lines = rooted_at version words lines
form_at version line (Some forms.Coloured) words lines = coloured_at version words lines
form_at version line (Some forms.Table) words lines = table_at version words lines

-- a problem, from its form line on
unfoldable pub instance_at : Version → LinesLeft → Result (WrittenInstance × LinesLeft) Fault
instance_at version p = do
  line ← line_at p
  word ← word_at line.0
  form_at version p.line (form_of word.0) word.1 line.1

-- the last line and the end of the text
unfoldable pub ending_at : LinesLeft → Result (Unit {0}) Fault
ending_at p = do
  rest ← end_at p
  closed_at rest

-- a whole description
unfoldable pub description_at : LinesLeft → Result WrittenInstance Fault
description_at p = do
  version ← version_at p
  instance ← instance_at version.0 version.1
  ending ← ending_at instance.1
  Ok instance.0

-- what a text says: a problem with its notation, or its first fault
abbrev pub written_of : List ℕ → Result WrittenInstance Fault
written_of text = description_at (record { line = 1; lines = lines_of text })

-- what a text says: the problem that it spells, or its first fault
abbrev pub read_of : List ℕ → Result Instance Fault
read_of text = written_of text >>= λ read. Ok read.instance

-- what a text says: the problem that it spells with the names of its elements and vertices, or its first fault
abbrev pub named_of : List ℕ → Result NamedInstance Fault
named_of text = written_of text >>= λ read. Ok (named_by read.notation read.instance)
