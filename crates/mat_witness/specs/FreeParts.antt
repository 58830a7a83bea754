-- What shows that a set is independent, without a search (Schrijver, chapters 9 and 39).
use Rattle.std.specs.Prelude.{ℕ, Bool, true, false, not, ◌&&◌, ◌||◌, ◌==◌, if◌then◌else◌, List, [], ◌∷◌, length, map}
use Rattle.std.specs.Prelude.{bytes_eq, slice_index_or}
use Rattle.std.specs.List.{concat, list_all, list_any}
use Rattle.mat_sets.specs.Graphs.{ends_of}
use Rattle.mat_sets.specs.Sets.{all_below, is_member}
use Rattle.mat_sets.specs.SetTests.{are_distinct}
use Rattle.mat_count.specs.Counts.{is_counted, is_uniform}
use Rattle.mat_flow.specs.Paths.{first_of, last_of}
use Rattle.mat_gf2.specs.Columns.{column_of}
use Rattle.mat_gf2.specs.InnerProducts.{inner_product_is_one}
use Rattle.mat_linked.specs.Gammoids.{is_path, vertices_of}
use Rattle.mat_any.specs.Trees.{Tree, uniform, partition, laminar, graphic, gammoid, gf2}
use Rattle.mat_witness.specs.Parts.{FreePart, count, forest, paths, probes}

-- ---- graphic matroids: each edge is no loop and brings a vertex that no edge before it has

-- whether v is an end of edge e
abbrev pub is_end : (ℕ → ℕ × ℕ) → ℕ → ℕ → Bool
is_end ends e v = (ends e).0 == v || (ends e).1 == v

-- whether v is an end of edge e and the other end is another vertex
abbrev pub is_single_end : (ℕ → ℕ × ℕ) → ℕ → ℕ → Bool
is_single_end ends e v = is_end ends e v && not ((ends e).0 == (ends e).1)

-- whether in each pair of an edge and a vertex the vertex is a single end of the edge, and no end of an earlier edge
abbrev pub bring_vertices : (ℕ → ℕ × ℕ) → List ℕ → List (ℕ × ℕ) → Bool
bring_vertices ends earlier [] = true
bring_vertices ends earlier (pair ∷ pairs) =
    is_single_end ends pair.0 pair.1 && (not (list_any (λ e. is_end ends e pair.1) earlier) && bring_vertices ends (pair.0 ∷ earlier) pairs)

-- whether the items are the members of X, each once
abbrev pub lists_members : List ℕ → List ℕ → Bool
lists_members items X = are_distinct items && ((length items == length X) && list_all (λ x. is_member x X) items)

-- whether the edges of the pairs are those of X, each once, and each brings its vertex
abbrev pub shows_forest : (ℕ → ℕ × ℕ) → List (ℕ × ℕ) → List ℕ → Bool
shows_forest ends pairs X = lists_members (map (λ pair. pair.0) pairs) X && bring_vertices ends [] pairs

-- ---- gammoids: disjoint paths

-- whether these are paths that start at sources, their last vertices are, in order, those of the members of X, and no vertex stands twice in
-- all of them
abbrev pub shows_paths : List (ℕ × ℕ) → List ℕ → List ℕ → List (List ℕ) → List ℕ → Bool
shows_paths arcs sources targets lists X =
    list_all (λ path. is_path arcs path && is_member (first_of path) sources) lists
    && (bytes_eq (map last_of lists) (vertices_of targets X) && are_distinct (concat lists))

-- ---- columns over the field of two elements: each probe tells its own column from the others

-- whether the i-th probe has an odd number of ones in common with the column of the i-th member of X, and an even number with the others
abbrev pub shows_probes : (ℕ → ℕ) → List ℕ → List ℕ → Bool
shows_probes column numbers X =
    (length numbers == length X)
    && list_all (λ i. list_all (λ j. (if i == j then inner_product_is_one (slice_index_or numbers i 0) (column (slice_index_or X j 0))
    else not (inner_product_is_one (slice_index_or numbers i 0) (column (slice_index_or X j 0))))) (all_below (length X))) (all_below (length X))

-- ---- any kind

-- whether the part shows that X is independent
abbrev pub shows_free : Tree → FreePart → List ℕ → Bool
shows_free (uniform n cap) count X = is_uniform n cap X
shows_free (partition n classes caps) count X = is_counted n classes caps X
shows_free (laminar n sets caps) count X = is_counted n sets caps X
shows_free (graphic vertices edges) (forest pairs) X = shows_forest (ends_of edges) pairs X
shows_free (gammoid vertices arcs sources targets) (paths lists) X = shows_paths arcs sources targets lists X
shows_free (gf2 dim columns) (probes numbers) X = shows_probes (column_of columns) numbers X
shows_free tree part X = false
