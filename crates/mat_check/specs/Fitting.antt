-- Which answers fit which problems.
use Rattle.std.specs.Prelude.{Bool, true, false, ◌==◌, length}
use Rattle.mat_problem.specs.Instances.{Instance, pair, list, graph, rooted, coloured, table}
use Rattle.mat_cert.specs.Certificates.{Certificate, intersect, best, union_of, pack_any, pack, cover_never, cover, trees, trees_none}
use Rattle.mat_cert.specs.Certificates.{arbor, unreached, disjoint, disjoint_none, rainbow, assign}

-- whether the form is a pair of matroids
abbrev pub is_pair : Instance → Bool
is_pair (pair w first second) = true
is_pair instance = false

-- whether the form is a list of matroids
abbrev pub is_list : Instance → Bool
is_list (list w matroids) = true
is_list instance = false

-- whether the form is a list of one matroid
abbrev pub is_single : Instance → Bool
is_single (list w matroids) = length matroids == 1
is_single instance = false

-- whether the form is a graph
abbrev pub is_graph : Instance → Bool
is_graph (graph vertices edges) = true
is_graph instance = false

-- whether the form is a directed graph with a root
abbrev pub is_rooted : Instance → Bool
is_rooted (rooted vertices root arcs costs) = true
is_rooted instance = false

-- whether the form is a coloured graph
abbrev pub is_coloured : Instance → Bool
is_coloured (coloured vertices colours edges colour_of weights) = true
is_coloured instance = false

-- whether the form is a table
abbrev pub is_table : Instance → Bool
is_table (table rows columns cells weights) = true
is_table instance = false

-- whether the form of the problem is the one that the answer's command takes
abbrev pub fits : Instance → Certificate → Bool
fits instance (intersect n rungs cut) = is_pair instance
fits instance (best n rungs) = is_single instance
fits instance (union_of n weight parts levels) = is_list instance
fits instance (pack_any n) = is_single instance
fits instance (pack n bases cut) = is_single instance
fits instance (cover_never n loop_at) = is_single instance
fits instance (cover n sets cut) = is_single instance
fits instance (trees n sets) = is_graph instance
fits instance (trees_none n k vertices classes) = is_graph instance
fits instance (arbor n cost arcs first second) = is_rooted instance
fits instance (unreached n vertices set) = is_rooted instance
fits instance (disjoint n sets) = is_rooted instance
fits instance (disjoint_none n k vertices set) = is_rooted instance
fits instance (rainbow n vertices colours rungs cut missing) = is_coloured instance
fits instance (assign n rows columns rungs cut) = is_table instance

-- whether the answer is one about a whole list of matroids
abbrev pub is_union : Certificate → Bool
is_union (union_of n weight parts levels) = true
is_union answer = false
