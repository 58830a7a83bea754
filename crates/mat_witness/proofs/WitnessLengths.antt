-- How long the text of a witness is. A bound has two lines of at most 500 numbers, or at most 129 lines of at most 128 digits; there are at most
-- 1,002 bounds. A part that shows independence has at most 500 pairs, 500 lines of digits, or 500 paths with at most 500 vertices in all.
use Rattle.mat_witness.proofs.Common.{◌≡◌, ℕ, suc, ◌+◌, ◌*◌, ◌≤◌, pos, Bool, true, false, not, cond, List, [], ◌∷◌, ◌++◌, length, map, Some, None, refl, sym, ap, ◌∙◌, arith, Option, codes, filter, nat_lt, and_parts, length-append, length-map, slice_get-get_or, All-cons, All-head, All-nil, All-tail}
use Rattle.mat_witness.proofs.Common.{most_elements, most_vertices, AllBelow, IsSet, are_distinct, Weight, is_below, is_same, AllBelow-append, IsSet-length, length-distinct_below, are_distinct-gives, falling_weights, with_weight, binary, Line, text_of, numeral, numerals, end_line, members_line}
use Rattle.mat_witness.proofs.Common.{text_of-append, Tree, uniform, partition, laminar, graphic, gammoid, gf2, IsValid, IsValidTree, Instance, pair, Certificate, IsRanged, intersect, PricedRung, shows_free, has_rung, binary_line, bound_lines, bounds_lines, free_lines, witness_limit, witness_lines}
use Rattle.mat_witness.proofs.Common.{witness_text, AreSpent, BoundPart, FreePart, WitnessParts, IsBoundFor, IsFreeFor, count, forest, paths, probes, spent, labels, gate, zeros, AreBoundsFor, Demand, IsShown, IsWitnessFor, bounded_trees, demand_at, shows_common_set, is_priced, rung_at}
use Rattle.std.specs.List.{All, concat, flat_map}
use Rattle.mat_words.proofs.BinaryLaws.{length-binary}
use Rattle.mat_problem.specs.Instances as instances
use Rattle.mat_cert.specs.Certificates as certificates
use Rattle.mat_cert.proofs.PrintedLengths.{IsAtMost, line_length, members_short, natural_length, text_length}
use Rattle.mat_witness.proofs.BoundRows.{All-bounded_trees, bounded_trees-row, demand_count, length-row_trees}
use Rattle.mat_witness.proofs.PartLines.{IsPathIn}
use Rattle.mat_witness.proofs.WordRows.{IsPairIn, length-pairs_words}
use Rattle.mat_witness.proofs.WitnessTexts.{rung_inside, rung_ranges}

-- ---- lines

-- how many bytes lines have
abbrev pub bytes : List Line → ℕ
bytes lines = length (text_of lines)

bytes-append : (first second : List Line) → bytes (first ++ second) ≡ bytes first + bytes second
bytes-append first second = ap length (text_of-append first second) ∙ length-append (text_of first) (text_of second)

-- a line of a short keyword and numbers below 500
members_bytes : (key : List ℕ) (n : ℕ) (xs : List ℕ) → length key ≤ 6 → n ≤ most_elements → AllBelow n xs
    → bytes (members_line key xs ∷ []) ≤ 8 + 4 * length xs
members_bytes key n xs short few below =
    let line = line_length 3 key (numerals xs) (members_short n xs few below) in
    let many : length (numerals xs) ≡ length xs = length-map xs (λ x. numeral (pos x)) in
    omega (arith, rw many at line)

-- two of them, of sets
two_sets_bytes : (key other : List ℕ) (n m : ℕ) (xs ys : List ℕ) → length key ≤ 6 → length other ≤ 6 → n ≤ most_elements → m ≤ most_elements
    → IsSet n xs → IsSet m ys → bytes (members_line key xs ∷ members_line other ys ∷ []) ≤ 5000
two_sets_bytes key other n m xs ys short short_other few few_others one two =
    let first = members_bytes key n xs short few one.below in
    let second = members_bytes other m ys short_other few_others two.below in
    let both = text_length (members_line key xs) (members_line other ys ∷ []) in
    omega (arith, first, second, both, IsSet-length n xs one, IsSet-length m ys two)

-- a line of a short keyword and at most 128 digits
binary_bytes : (key : List ℕ) (d z : ℕ) → length key ≤ 6 → d ≤ 128 → bytes (binary_line key d z ∷ []) ≤ 137
binary_bytes key d z short few =
    let digits : length (binary d z) ≤ 128 = rw length-binary few in
    let line = line_length 128 key (binary d z ∷ []) (All-cons (IsAtMost 128) (binary d z) [] digits (All-nil (IsAtMost 128))) in
    omega (arith, line)

binary_lines_bytes : (key : List ℕ) (d : ℕ) (numbers : List ℕ) → length key ≤ 6 → d ≤ 128
    → bytes (map (binary_line key d) numbers) ≤ 137 * length numbers
binary_lines_bytes key d [] short few = omega arith
binary_lines_bytes key d (z ∷ numbers) short few =
    let one = binary_bytes key d z short few in
    let others = binary_lines_bytes key d numbers short few in
    let both = text_length (binary_line key d z) (map (binary_line key d) numbers) in
    omega (arith, one, others, both)

-- ---- bounds

zeros_bytes : (dim : ℕ) (numbers : List ℕ) → dim ≤ 128 → length numbers ≤ dim
    → bytes ((codes "zeros" ∷ numeral (pos (length numbers)) ∷ []) ∷ map (binary_line (codes "zero") dim) numbers) ≤ 20000
zeros_bytes dim numbers small few =
    let count = line_length 3 (codes "zeros") (numeral (pos (length numbers)) ∷ [])
    (All-cons (IsAtMost 3) (numeral (pos (length numbers))) [] (natural_length 3 (length numbers) (omega arith) (omega (arith, few, small)))
    (All-nil (IsAtMost 3))) in
    let others = binary_lines_bytes (codes "zero") dim numbers (omega arith) small in
    let both = text_length (codes "zeros" ∷ numeral (pos (length numbers)) ∷ []) (map (binary_line (codes "zero") dim) numbers) in
    omega (arith, count, others, both, few, small)

spent_bytes : (n m : ℕ) (elements chosen : List ℕ) → n ≤ most_elements → m ≤ most_elements → AreSpent n m elements chosen
    → bytes (members_line (codes "spent") elements ∷ members_line (codes "sets") chosen ∷ []) ≤ 20000
spent_bytes n m elements chosen few few_sets inside =
    let both = two_sets_bytes (codes "spent") (codes "sets") n m elements chosen (omega arith) (omega arith) few few_sets
    inside.elements_inside inside.chosen_inside in
    omega (arith, both)

labels_bytes : (vertices : ℕ) (numbers : List ℕ) → vertices ≤ most_vertices → length numbers ≡ vertices → AllBelow vertices numbers
    → bytes (members_line (codes "labels") numbers ∷ []) ≤ 20000
labels_bytes vertices numbers few size below =
    let line = members_bytes (codes "labels") vertices numbers (omega arith) (omega (arith, few)) below in
    omega (arith, line, few, size)

gate_bytes : (vertices : ℕ) (reached closing : List ℕ) → vertices ≤ most_vertices → IsSet vertices reached → IsSet vertices closing
    → bytes (members_line (codes "reach") reached ∷ members_line (codes "gate") closing ∷ []) ≤ 20000
gate_bytes vertices reached closing few one two =
    let both = two_sets_bytes (codes "reach") (codes "gate") vertices vertices reached closing (omega arith) (omega arith)
    (omega (arith, few)) (omega (arith, few)) one two in
    omega (arith, both)

bound_bytes : (n : ℕ) (tree : Tree) (part : BoundPart) → n ≤ most_elements → IsValidTree n tree → IsBoundFor n tree part
    → bytes (bound_lines tree part) ≤ 20000
bound_bytes n (uniform m cap) (spent elements chosen) few valid fits = spent_bytes n 1 elements chosen few (omega arith) fits
bound_bytes n (partition m classes caps) (spent elements chosen) few valid fits =
    spent_bytes n (length classes) elements chosen few (omega (arith, valid.1.few)) fits
bound_bytes n (laminar m sets caps) (spent elements chosen) few valid fits =
    spent_bytes n (length sets) elements chosen few (omega (arith, valid.1.few)) fits
bound_bytes n (graphic vertices edges) (labels numbers) few valid fits = labels_bytes vertices numbers valid.2 fits.0 fits.1
bound_bytes n (gammoid vertices arcs sources targets) (gate reached closing) few valid fits = gate_bytes vertices reached closing valid.2 fits.0 fits.1
bound_bytes n (gf2 dim columns) (zeros numbers) few valid fits = zeros_bytes dim numbers valid.2 fits.0
bound_bytes n _ part few valid fits = absurd fits

bounds_bytes : (n : ℕ) (trees : List Tree) (parts : List BoundPart) → n ≤ most_elements → All (IsValidTree n) trees
    → AreBoundsFor n trees parts → bytes (bounds_lines trees parts) ≤ 20000 * length trees
bounds_bytes n [] [] few valid fits = omega arith
bounds_bytes n (tree ∷ trees) (part ∷ parts) few valid fits =
    let one = bound_bytes n tree part few (All-head (IsValidTree n) tree trees valid) fits.0 in
    let others = bounds_bytes n trees parts few (All-tail (IsValidTree n) tree trees valid) fits.1 in
    let both = bytes-append (bound_lines tree part) (bounds_lines trees parts) in
    omega (arith, one, others, both)
bounds_bytes n _ _ few valid fits = absurd fits

-- ---- parts that show independence

-- the numbers of a list of pairs
abbrev numbers_of : List (ℕ × ℕ) → List ℕ
numbers_of pairs = flat_map (λ ends. ends.0 ∷ ends.1 ∷ []) pairs

numbers_below : (n vertices : ℕ) (pairs : List (ℕ × ℕ)) → n ≤ most_elements → vertices ≤ most_vertices → All (IsPairIn n vertices) pairs
    → AllBelow most_elements (numbers_of pairs)
numbers_below n vertices [] few some each = tt
numbers_below n vertices (ends ∷ pairs) few some each =
    let here = All-head (IsPairIn n vertices) ends pairs each in
    let others = numbers_below n vertices pairs few some (All-tail (IsPairIn n vertices) ends pairs each) in
    (omega (arith, here.0, few), (omega (arith, here.1, some), others))

forest_bytes : (n k vertices : ℕ) (pairs : List (ℕ × ℕ)) → n ≤ most_elements → k ≤ most_elements → vertices ≤ most_vertices
    → length pairs ≡ k → All (IsPairIn n vertices) pairs → bytes (members_line (codes "forest") (numbers_of pairs) ∷ []) ≤ 100000
forest_bytes n k vertices pairs few small some size each =
    let line = members_bytes (codes "forest") most_elements (numbers_of pairs) (omega arith) (omega arith)
    (numbers_below n vertices pairs few some each) in
    let many : length (numbers_of pairs) ≡ 2 * length pairs =
    sym (length-map (numbers_of pairs) (λ x. numeral (pos x))) ∙ length-pairs_words pairs in
    omega (arith, line, many, size, small)

-- a line for each path: its keyword, and its vertices
path_lines_bytes : (vertices : ℕ) (lists : List (List ℕ)) → vertices ≤ most_vertices → All (IsPathIn vertices) lists
    → bytes (map (members_line (codes "path")) lists) ≤ 8 * length lists + 4 * length (concat lists)
path_lines_bytes vertices [] few each = omega arith
path_lines_bytes vertices (path ∷ lists) few each =
    let here = All-head (IsPathIn vertices) path lists each in
    let one = members_bytes (codes "path") vertices path (omega arith) (omega (arith, few)) here.1 in
    let others = path_lines_bytes vertices lists few (All-tail (IsPathIn vertices) path lists each) in
    let both = text_length (members_line (codes "path") path) (map (members_line (codes "path")) lists) in
    omega (arith, one, others, both, length-append path (concat lists))

concat_below : (vertices : ℕ) (lists : List (List ℕ)) → All (IsPathIn vertices) lists → AllBelow vertices (concat lists)
concat_below vertices [] each = tt
concat_below vertices (path ∷ lists) each =
    AllBelow-append vertices path (concat lists) (All-head (IsPathIn vertices) path lists each).1
    (concat_below vertices lists (All-tail (IsPathIn vertices) path lists each))

-- the vertices of all paths are different
paths_bytes : (k vertices : ℕ) (lists : List (List ℕ)) → k ≤ most_elements → vertices ≤ most_vertices → length lists ≡ k
    → All (IsPathIn vertices) lists → are_distinct (concat lists) ≡ true
    → bytes (map (members_line (codes "path")) lists) ≤ 100000
paths_bytes k vertices lists small few size each distinct =
    let lines = path_lines_bytes vertices lists few each in
    let all = length-distinct_below vertices (concat lists) (are_distinct-gives (concat lists) distinct) (concat_below vertices lists each) in
    omega (arith, lines, all, size, small, few)

probes_bytes : (k dim : ℕ) (numbers : List ℕ) → k ≤ most_elements → dim ≤ 128 → length numbers ≡ k
    → bytes (map (binary_line (codes "probe") dim) numbers) ≤ 100000
probes_bytes k dim numbers small few size =
    let lines = binary_lines_bytes (codes "probe") dim numbers (omega arith) few in
    omega (arith, lines, size, small)

count_bytes : bytes ((codes "count" ∷ []) ∷ []) ≤ 100000
count_bytes = omega arith

free_bytes : (n k : ℕ) (tree : Tree) (part : FreePart) (X : List ℕ) → n ≤ most_elements → k ≤ most_elements → IsValidTree n tree
    → IsFreeFor n k tree part → shows_free tree part X ≡ true → bytes (free_lines tree part) ≤ 100000
free_bytes n k (uniform m cap) count X few small valid fits shown = count_bytes
free_bytes n k (partition m classes caps) count X few small valid fits shown = count_bytes
free_bytes n k (laminar m sets caps) count X few small valid fits shown = count_bytes
free_bytes n k (graphic vertices edges) (forest pairs) X few small valid fits shown =
    forest_bytes n k vertices pairs few small valid.2 fits.0 fits.1
free_bytes n k (gammoid vertices arcs sources targets) (paths lists) X few small valid fits shown =
    paths_bytes k vertices lists small valid.2 fits.0 fits.1 (and_parts _ (are_distinct (concat lists)) (and_parts _ _ shown).1).1
free_bytes n k (gf2 dim columns) (probes numbers) X few small valid fits shown = probes_bytes k dim numbers small valid.2 fits.0
free_bytes n k _ part X few small valid fits shown = absurd fits

-- ---- how many bounds there are

length-filter-le : {A : Type 0} (test : A → Bool) (xs : List A) → length (filter test xs) ≤ length xs
length-filter-le test [] = omega arith
length-filter-le {A} test (x ∷ xs) = by (length-filter-le test xs) (test x)
  where
    by : length (filter test xs) ≤ length xs → (kept : Bool) → length (cond kept (x ∷ filter test xs) (filter test xs)) ≤ suc (length xs)
    by others true = omega (arith, others)
    by others false = omega (arith, others)

length-with_weight : (w : Weight) (weights : List Weight) → length (with_weight w weights) ≤ suc (length weights)
length-with_weight w [] = omega arith
length-with_weight w (v ∷ weights) = by (length-with_weight w weights) (is_below v w) (is_same v w)
  where
    by : length (with_weight w weights) ≤ suc (length weights) → (below same : Bool)
        → length (cond below (w ∷ v ∷ weights) (cond same (v ∷ weights) (v ∷ with_weight w weights))) ≤ suc (suc (length weights))
    by others true same = omega arith
    by others false true = omega arith
    by others false false = omega (arith, others)

length-falling : (weights : List Weight) → length (falling_weights weights) ≤ length weights
length-falling [] = omega arith
length-falling (w ∷ weights) =
    let one = length-with_weight w (falling_weights weights) in
    let others = length-falling weights in
    omega (arith, one, others)

pub length-demands : (tree : Tree) (k : ℕ) (set : List ℕ) (half : List Weight) → demand_count tree k set half ≤ length half
length-demands tree k set half =
    let kept = length-filter-le (λ (demand : Demand). nat_lt demand.most k) (map (demand_at tree set half) (falling_weights half)) in
    let mapped = length-map (falling_weights half) (demand_at tree set half) in
    let falling = length-falling half in
    omega (arith, kept, mapped, falling)

pub length-bounded_trees : (first second : Tree) (k : ℕ) (rung : PricedRung)
    → length (bounded_trees first second k rung)
    ≡ demand_count first k rung.set rung.first + (demand_count second k rung.set rung.second + 2)
length-bounded_trees first second k rung =
    ap length (bounded_trees-row first second k rung)
    ∙ length-row_trees first second (demand_count first k rung.set rung.first) (demand_count second k rung.set rung.second)

-- ---- the whole text

rung_bytes : (k : ℕ) → k ≤ most_elements → bytes ((codes "witness" ∷ codes "1" ∷ []) ∷ (codes "rung" ∷ numeral (pos k) ∷ []) ∷ []) ≤ 100
rung_bytes k few =
    let second = line_length 3 (codes "rung") (numeral (pos k) ∷ [])
    (All-cons (IsAtMost 3) (numeral (pos k)) [] (natural_length 3 k (omega arith) (omega (arith, few))) (All-nil (IsAtMost 3))) in
    let both = text_length (codes "witness" ∷ codes "1" ∷ []) ((codes "rung" ∷ numeral (pos k) ∷ []) ∷ []) in
    omega (arith, second, both)

pub witness_bytes : (first second : Tree) (trees : List Tree) (witness : WitnessParts) → witness.k ≤ most_elements
    → bytes (free_lines first witness.first) ≤ 100000 → bytes (free_lines second witness.second) ≤ 100000
    → bytes (bounds_lines trees witness.bounds) ≤ 20000 * length trees → length trees ≤ 1002
    → bytes (witness_lines first second trees witness) ≤ witness_limit
witness_bytes first second trees witness few one two bounds many =
    let head = (codes "witness" ∷ codes "1" ∷ []) ∷ (codes "rung" ∷ numeral (pos witness.k) ∷ []) ∷ [] in
    let a = free_lines first witness.first in
    let b = free_lines second witness.second in
    let c = bounds_lines trees witness.bounds in
    let whole = bytes-append head (a ++ (b ++ (c ++ end_line ∷ []))) in
    let behind = bytes-append a (b ++ (c ++ end_line ∷ [])) in
    let rest = bytes-append b (c ++ end_line ∷ []) in
    let last = bytes-append c (end_line ∷ []) in
    let opening = rung_bytes witness.k few in
    let end : bytes (end_line ∷ []) ≤ 4 = omega arith in
    omega (arith, whole, behind, rest, last, opening, end, one, two, bounds, many)

-- a witness whose second part holds
second_part : (priced free : Bool) (rest : Option ℕ) → cond (not priced) (Some 1) (cond (not free) (Some 2) rest) ≡ None → free ≡ true
second_part true true rest shown = refl
second_part true false rest shown = absurd cc
second_part false free rest shown = absurd cc

-- the text of a witness that shows its rung is short
pub text_short : (instance : Instance) (answer : Certificate) (k : ℕ) (witness : WitnessParts) → IsValid instance → IsRanged answer
    → has_rung answer k ≡ true → IsWitnessFor instance answer k witness → IsShown instance answer k witness
    → length (witness_text instance answer k witness) ≤ witness_limit
text_short (pair w first second) (intersect n rungs cut) k witness valid ranged has fits shown =
    let rung = rung_at rungs k in
    let trees = bounded_trees first second k rung in
    let inside = rung_inside n rungs cut k has in
    let ranges = rung_ranges w first second n rungs cut k rung valid ranged has (slice_get-get_or rungs k _ inside) in
    let few : length w ≤ most_elements = valid.0.0 in
    let free = and_parts (shows_free first witness.first rung.set) (shows_free second witness.second rung.set)
    (second_part (is_priced w n rung) (shows_common_set first second witness rung.set) _ shown) in
    let one = free_bytes (length w) k first witness.first rung.set few ranges.few ranges.first_matroid fits.first_part free.0 in
    let two = free_bytes (length w) k second witness.second rung.set few ranges.few ranges.second_matroid fits.second_part free.1 in
    let valid_trees = All-bounded_trees (IsValidTree (length w)) first second k rung ranges.first_matroid ranges.second_matroid in
    let bounds = bounds_bytes (length w) trees witness.bounds few valid_trees fits.bound_parts in
    let many : length trees ≤ 1002 = omega (
      arith,
      length-bounded_trees first second k rung,
      length-demands first k rung.set rung.first,
      length-demands second k rung.set rung.second,
      ranges.first_half,
      ranges.second_half,
    ) in
    witness_bytes first second trees witness (omega (arith, fits.same, ranges.few)) one two bounds many
text_short _ answer k _ valid ranged has fits shown = absurd fits
