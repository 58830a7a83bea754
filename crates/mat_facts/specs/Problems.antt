-- What a problem has, whatever its form: its rules, each as a matroid by its test of independence, its elements, and their weights. Elements
-- are the edges, the arcs or the cells of a problem that has these; costs count negated.
use Rattle.std.specs.Prelude.{◌≡◌, ℕ, ◌<◌, Bool, true, List, [], ◌∷◌, length, map, slice_index}
use Rattle.mat_sets.specs.Graphs.{ends_of}
use Rattle.mat_sets.specs.Weights.{negated}
use Rattle.mat_sets.specs.declared.weight.Weight.{Weight}
use Rattle.mat_graphic.specs.Forests.{is_graphic}
use Rattle.mat_union.specs.Unions.{test_at}
use Rattle.mat_arbor.specs.Heads.{is_entering_once}
use Rattle.mat_fronts.specs.Assignments.{column_at, row_at}
use Rattle.mat_fronts.specs.Once.{is_once}
use Rattle.mat_any.specs.Trees.{is_independent}
use Rattle.mat_problem.specs.Instances.{Instance, pair, list, graph, rooted, coloured, table}

-- how many elements there are
abbrev pub size_of : Instance → ℕ
size_of (pair w first second) = length w
size_of (list w matroids) = length w
size_of (graph vertices edges) = length edges
size_of (rooted vertices root arcs costs) = length arcs
size_of (coloured vertices colours edges colour_of w) = length edges
size_of (table rows columns cells w) = length cells

-- the rules. Of a graph: no cycle of edges; of arcs: no cycle, whatever their directions, and at most one into each vertex and none into the root;
-- of coloured edges: no cycle, and no two of one colour; of cells: no two in one row, and no two in one column
abbrev pub rules_of : Instance → List (List ℕ → Bool)
rules_of (pair w first second) = is_independent first ∷ is_independent second ∷ []
rules_of (list w matroids) = map is_independent matroids
rules_of (graph vertices edges) = is_graphic (length edges) (ends_of edges) ∷ []
rules_of (rooted vertices root arcs costs) =
    is_graphic (length arcs) (ends_of arcs) ∷ is_entering_once (length arcs) vertices (ends_of arcs) root ∷ []
rules_of (coloured vertices colours edges colour_of w) =
    is_graphic (length edges) (ends_of edges) ∷ is_once (length edges) colours (slice_index colour_of) ∷ []
rules_of (table rows columns cells w) =
    is_once (length cells) rows (row_at cells) ∷ is_once (length cells) columns (column_at cells) ∷ []

-- how many rules there are
abbrev pub rule_count : Instance → ℕ
rule_count problem = length (rules_of problem)

-- rule i; past the end it allows nothing
abbrev pub rule_at : Instance → ℕ → List ℕ → Bool
rule_at problem i = test_at (rules_of problem) i

-- each rule allows the set
abbrev pub AllAllow : Instance → List ℕ → Type 0
AllAllow problem X = (i : ℕ) → i < rule_count problem → rule_at problem i X ≡ true

-- the weight of each element; costs are negated, and edges of a graph without weights weigh nothing
abbrev pub weights_of : Instance → List Weight
weights_of (pair w first second) = w
weights_of (list w matroids) = w
weights_of (graph vertices edges) = []
weights_of (rooted vertices root arcs costs) = map negated costs
weights_of (coloured vertices colours edges colour_of w) = w
weights_of (table rows columns cells w) = w
