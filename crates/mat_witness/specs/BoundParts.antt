-- What shows that the rank of a set is at most a number, without a search (Schrijver, chapters 9, 13 and 39).
use Rattle.std.specs.Prelude.{ℕ, ◌+◌, ◌-◌, Bool, false, not, ◌&&◌, ◌||◌, ◌==◌, if◌then◌else◌, List, [], ◌∷◌, length, slice_index_or}
use Rattle.std.specs.Int.{bit_at}
use Rattle.std.specs.List.{list_all, list_any}
use Rattle.mat_sets.specs.Graphs.{ends_of}
use Rattle.mat_sets.specs.Search.{some_below}
use Rattle.mat_sets.specs.Sets.{all_below, is_member, union}
use Rattle.mat_gf2.specs.Columns.{column_of}
use Rattle.mat_gf2.specs.InnerProducts.{inner_product_is_one}
use Rattle.mat_linked.specs.Gammoids.{vertices_of}
use Rattle.mat_any.specs.Trees.{Tree, uniform, partition, laminar, graphic, gammoid, gf2}
use Rattle.mat_witness.specs.Kinds.{listed_caps, listed_sets}
use Rattle.mat_witness.specs.Parts.{BoundPart, spent, labels, gate, zeros}

-- ---- counted matroids: elements that count themselves, and listed sets that hold all others

-- whether x is in one of the listed sets with these numbers
abbrev pub is_in_chosen : List (List ℕ) → List ℕ → ℕ → Bool
is_in_chosen sets chosen x = list_any (λ i. is_member x (slice_index_or sets i [])) chosen

-- whether each member of F is one of the elements, or in one of the chosen sets
abbrev pub are_covered : List (List ℕ) → List ℕ → List ℕ → List ℕ → Bool
are_covered sets elements chosen F = list_all (λ x. is_member x elements || is_in_chosen sets chosen x) F

-- the sum of the caps of the chosen sets
abbrev pub caps_sum : List ℕ → List ℕ → ℕ
caps_sum caps [] = 0
caps_sum caps (i ∷ chosen) = slice_index_or caps i 0 + caps_sum caps chosen

-- ---- graphic matroids: no edge joins vertices of two labels

-- the label of a vertex
abbrev pub label_of : List ℕ → ℕ → ℕ
label_of numbers v = slice_index_or numbers v 0

-- whether both ends of each edge of F have one label
abbrev pub have_equal_labels : (ℕ → ℕ × ℕ) → List ℕ → List ℕ → Bool
have_equal_labels ends numbers F = list_all (λ e. label_of numbers (ends e).0 == label_of numbers (ends e).1) F

-- how many different numbers there are
abbrev pub count_different : List ℕ → ℕ
count_different numbers = length (union numbers [])

-- ---- gammoids: each path to a vertex of F meets the closing set

-- whether a vertex is in one of two sets
abbrev pub is_in_either : List ℕ → List ℕ → ℕ → Bool
is_in_either reached closing v = is_member v reached || is_member v closing

-- whether the two sets share no vertex, each source is in one of them, the head of each arc whose tail is reached is in one of them, and no
-- vertex of F is reached
abbrev pub are_closed_off : List (ℕ × ℕ) → List ℕ → List ℕ → List ℕ → List ℕ → Bool
are_closed_off arcs sources ends reached closing =
    list_all (λ v. not (is_member v closing)) reached
    && (list_all (is_in_either reached closing) sources
    && (list_all (λ arc. not (is_member arc.0 reached) || is_in_either reached closing arc.1) arcs
    && list_all (λ v. not (is_member v reached)) ends))

-- ---- columns over the field of two elements: equations that hold of each column of F, none of which follows from the others

-- whether the number at this place of the list has a binary one at a place where the others have none
abbrev pub has_own_one : ℕ → List ℕ → ℕ → Bool
has_own_one dim numbers i =
    some_below dim (λ place. list_all (λ j. bit_at (slice_index_or numbers j 0) place == (if i == j then 1 else 0)) (all_below (length numbers)))

-- whether each zero has an even number of ones in common with each column of F, and a one of its own
abbrev pub are_zeros : ℕ → (ℕ → ℕ) → List ℕ → List ℕ → Bool
are_zeros dim column numbers F =
    list_all (λ zero. list_all (λ e. not (inner_product_is_one zero (column e))) F) numbers
    && list_all (has_own_one dim numbers) (all_below (length numbers))

-- ---- any kind

-- whether the part shows that the rank of F is at most its number
abbrev pub shows_bound : Tree → BoundPart → List ℕ → Bool
shows_bound (uniform n cap) (spent elements chosen) F = are_covered (listed_sets (uniform n cap)) elements chosen F
shows_bound (partition n classes caps) (spent elements chosen) F = are_covered classes elements chosen F
shows_bound (laminar n sets caps) (spent elements chosen) F = are_covered sets elements chosen F
shows_bound (graphic vertices edges) (labels numbers) F = have_equal_labels (ends_of edges) numbers F
shows_bound (gammoid vertices arcs sources targets) (gate reached closing) F = are_closed_off arcs sources (vertices_of targets F) reached closing
shows_bound (gf2 dim columns) (zeros numbers) F = are_zeros dim (column_of columns) numbers F
shows_bound tree part F = false

-- the number of a part
abbrev pub bound_of : Tree → BoundPart → ℕ
bound_of tree (spent elements chosen) = length elements + caps_sum (listed_caps tree) chosen
bound_of (graphic vertices edges) (labels numbers) = vertices - count_different numbers
bound_of tree (gate reached closing) = length closing
bound_of (gf2 dim columns) (zeros numbers) = dim - length numbers
bound_of tree part = 0
