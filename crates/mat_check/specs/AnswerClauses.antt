-- The clauses of an answer, in the order in which they are tried, and the first that fails.
use Rattle.std.specs.Prelude.{Bool, false, ◌&&◌, ◌==◌, List, [], ◌∷◌, ◌++◌, length, map, Option, slice_index}
use Rattle.mat_sets.specs.Graphs.{ends_of}
use Rattle.mat_any.specs.Trees.{is_independent}
use Rattle.mat_problem.specs.Instances.{Instance, pair, list, graph, rooted, coloured, table}
use Rattle.mat_cert.specs.Certificates.{Certificate, intersect, best, union_of, pack_any, pack, cover_never, cover, trees, trees_none}
use Rattle.mat_cert.specs.Certificates.{arbor, unreached, disjoint, disjoint_none, rainbow, assign}
use Rattle.mat_graphic.specs.Forests.{is_graphic}
use Rattle.mat_fronts.specs.Assignments.{column_at, row_at}
use Rattle.mat_fronts.specs.Once.{is_once}
use Rattle.mat_check.specs.Clauses.{Clause, Failure, best_clauses, first_failure, header_clause, ladder_clauses}
use Rattle.mat_sets.specs.FallingWeights.{falling_weights}
use Rattle.mat_check.specs.SetClauses.{cover_clauses, loop_clause, no_rank_clause, pack_clauses, union_clauses}
use Rattle.mat_check.specs.TreeClauses.{arborescence_clauses, colours_clauses, disjoint_clauses, partition_clauses}
use Rattle.mat_check.specs.TreeClauses.{seldom_entered_clauses, trees_clauses}

-- whether the answer fits the problem and its header has the problem's numbers
abbrev pub has_header : Instance → Certificate → Bool
has_header (pair w first second) (intersect n rungs cut) = n == length w
has_header (list w matroids) (union_of n weight parts levels) =
    n == length w && (length parts == length matroids && length levels == length (falling_weights w))
has_header (list w (matroid ∷ [])) (best n rungs) = n == length w
has_header (list w (matroid ∷ [])) (pack_any n) = n == length w
has_header (list w (matroid ∷ [])) (pack n bases cut) = n == length w
has_header (list w (matroid ∷ [])) (cover_never n loop_at) = n == length w
has_header (list w (matroid ∷ [])) (cover n sets cut) = n == length w
has_header (graph vertices edges) (trees n sets) = n == length edges
has_header (graph vertices edges) (trees_none n k v classes) = n == length edges && v == vertices
has_header (rooted vertices root arcs costs) (arbor n cost tree first second) = n == length arcs
has_header (rooted vertices root arcs costs) (unreached n v set) = n == length arcs && v == vertices
has_header (rooted vertices root arcs costs) (disjoint n sets) = n == length arcs
has_header (rooted vertices root arcs costs) (disjoint_none n k v set) = n == length arcs && v == vertices
has_header (coloured vertices colours edges colour_of w) (rainbow n v c rungs cut missing) =
    n == length edges && (v == vertices && c == colours)
has_header (table rows columns cells w) (assign n r c rungs cut) = n == length cells && (r == rows && c == columns)
has_header instance answer = false

-- the clauses behind the header of an answer that fits the problem; of any other answer none
abbrev pub answer_clauses : Instance → Certificate → List Clause
answer_clauses (pair w first second) (intersect n rungs cut) = ladder_clauses n (is_independent first) (is_independent second) w rungs cut
answer_clauses (list w matroids) (union_of n weight parts levels) = union_clauses n (map is_independent matroids) w weight parts levels
answer_clauses (list w (matroid ∷ [])) (best n rungs) = best_clauses n (is_independent matroid) w rungs
answer_clauses (list w (matroid ∷ [])) (pack_any n) = no_rank_clause n (is_independent matroid) ∷ []
answer_clauses (list w (matroid ∷ [])) (pack n bases cut) = pack_clauses n (is_independent matroid) bases cut
answer_clauses (list w (matroid ∷ [])) (cover_never n loop_at) = loop_clause (is_independent matroid) loop_at ∷ []
answer_clauses (list w (matroid ∷ [])) (cover n sets cut) = cover_clauses n (is_independent matroid) sets cut
answer_clauses (graph vertices edges) (trees n sets) = trees_clauses vertices n (ends_of edges) sets
answer_clauses (graph vertices edges) (trees_none n k v classes) = partition_clauses vertices n (ends_of edges) k classes
answer_clauses (rooted vertices root arcs costs) (arbor n cost tree first second) =
    arborescence_clauses vertices n (ends_of arcs) costs root cost tree first second
answer_clauses (rooted vertices root arcs costs) (unreached n v set) = seldom_entered_clauses n (ends_of arcs) root 1 set
answer_clauses (rooted vertices root arcs costs) (disjoint n sets) = disjoint_clauses vertices n (ends_of arcs) root sets
answer_clauses (rooted vertices root arcs costs) (disjoint_none n k v set) = seldom_entered_clauses n (ends_of arcs) root k set
answer_clauses (coloured vertices colours edges colour_of w) (rainbow n v c rungs cut missing) =
    ladder_clauses n (is_graphic n (ends_of edges)) (is_once n colours (slice_index colour_of)) w rungs cut
    ++ colours_clauses vertices n (ends_of edges) (slice_index colour_of) missing
answer_clauses (table rows columns cells w) (assign n r c rungs cut) =
    ladder_clauses n (is_once n rows (row_at cells)) (is_once n columns (column_at cells)) w rungs cut
answer_clauses instance answer = []

-- the clauses of an answer, in the order in which they are tried
abbrev pub clauses_of : Instance → Certificate → List Clause
clauses_of instance answer = header_clause (has_header instance answer) ∷ answer_clauses instance answer

-- the first clause of an answer that fails, with its places
abbrev pub failure_of : Instance → Certificate → Option Failure
failure_of instance answer = first_failure (clauses_of instance answer)
