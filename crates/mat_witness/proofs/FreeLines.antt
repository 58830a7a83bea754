-- The lines of a part that shows independence, and of a bound: what is read is spelled so, and what is spelled so is read.
use Rattle.mat_witness.proofs.Common.{◌≡◌, ℕ, ◌*◌, ◌^◌, ◌<◌, ◌≤◌, true, List, [], ◌∷◌, ◌++◌, length, map, Result, Ok, refl, sym, ap, subst, ◌∙◌, codes, append-nil, nil_from_length, LinesLeft, Line, ◌>>=◌, repeat_at, members_line, AreLeft, found-same, bind_found, numerals_words, Tree, uniform}
use Rattle.mat_witness.proofs.Common.{partition, laminar, graphic, gammoid, gf2, counted_at, Fault, IsRead, IsReadAgain, whole_line, is_witnessed, binary_line, free_lines, FreePart, IsFreeFor, count, forest, paths, probes, binary_line_at, free_at, pair_at, path_at, counted_found, counted_again}
use Rattle.std.specs.List.{All, flat_map}
use Rattle.mat_cert.proofs.ListLaws.{items_found, items_again}
use Rattle.mat_witness.proofs.WordRows.{IsPairIn, pairs_words, pairs_found, pairs_again, length-pairs_words}
use Rattle.mat_witness.proofs.PartLines.{IsPathIn, binary_line_found, binary_line_again, path_found, path_again}

-- the columns of a matroid have digits, where it has columns
abbrev pub HasDigits : Tree → Type 0
HasDigits (gf2 dim columns) = 1 ≤ dim
HasDigits tree = Unit {0}

-- ---- what shows independence

-- a free part was read
abbrev IsFreeRead : ℕ → ℕ → Tree → LinesLeft → FreePart → LinesLeft → Type 0
IsFreeRead n k tree p part q = IsRead (IsFreeFor n k tree part) (free_lines tree part) p q

-- the line of a counted matroid
abbrev count_at : LinesLeft → Result (FreePart × LinesLeft) Fault
count_at p = counted_at (codes "count") 0 p >>= λ line. Ok (count, line.1)

count_found : (p : LinesLeft) (part : FreePart) (q : LinesLeft) → count_at p ≡ Ok (part, q)
    → IsRead (part ≡ count) ((codes "count" ∷ []) ∷ []) p q
count_found p part q e =
    let line = bind_found (counted_at (codes "count") 0 p) (λ line. Ok (count, line.1)) (part, q) e in
    let counted = counted_found (codes "count") 0 p line.0.0 line.0.1 line.1 in
    let words = nil_from_length line.0.0.words counted.count in
    subst (λ (r : FreePart × LinesLeft). IsRead (r.0 ≡ count) ((codes "count" ∷ []) ∷ []) p r.1) (found-same (count, line.0.1) (part, q) line.2)
    (record {
      in_range = refl;
      spelled = λ rest left. subst (λ (ws : Line). AreLeft ((codes "count" ∷ ws) ∷ rest) p) words (counted.spelled rest left);
    })

forest_found : (n k vertices : ℕ) (edges : List (ℕ × ℕ)) (p : LinesLeft) (part : FreePart) (q : LinesLeft)
    → free_at n k (graphic vertices edges) p ≡ Ok (part, q) → IsFreeRead n k (graphic vertices edges) p part q
unfolding free_at
forest_found n k vertices edges p part q e =
    let line = bind_found (counted_at (codes "forest") (2 * k) p)
    (λ line. repeat_at (pair_at n vertices) k line.0 >>= λ pairs. Ok (forest pairs.0, line.1)) (part, q) e in
    let pairs = bind_found (repeat_at (pair_at n vertices) k line.0.0) (λ pairs. Ok (forest pairs.0, line.0.1)) (part, q) line.2 in
    let counted = counted_found (codes "forest") (2 * k) p line.0.0 line.0.1 line.1 in
    let read = pairs_found n vertices k line.0.0 pairs.0.0 pairs.0.1 pairs.1 in
    let words = whole_line (pairs_words pairs.0.0) pairs.0.1.words line.0.0.words read.cut
    (counted.count ∙ ap (λ (m : ℕ). 2 * m) (sym read.count) ∙ sym (length-pairs_words pairs.0.0)) in
    subst (λ (r : FreePart × LinesLeft). IsFreeRead n k (graphic vertices edges) p r.0 r.1)
    (found-same (forest pairs.0.0, line.0.1) (part, q) pairs.2) (record {
      in_range = (read.count, read.each);
      spelled = λ rest left. subst (λ (ws : Line). AreLeft ((codes "forest" ∷ ws) ∷ rest) p) words (counted.spelled rest left);
    })

paths_found : (n k vertices : ℕ) (arcs : List (ℕ × ℕ)) (sources targets : List ℕ) (p : LinesLeft) (part : FreePart) (q : LinesLeft)
    → free_at n k (gammoid vertices arcs sources targets) p ≡ Ok (part, q) → IsFreeRead n k (gammoid vertices arcs sources targets) p part q
unfolding free_at
paths_found n k vertices arcs sources targets p part q e =
    let lists = bind_found (repeat_at (path_at vertices) k p) (λ lists. Ok (paths lists.0, lists.1)) (part, q) e in
    let read = items_found (path_at vertices) (IsPathIn vertices) (members_line (codes "path")) (path_found vertices)
    k p lists.0.0 lists.0.1 lists.1 in
    subst (λ (r : FreePart × LinesLeft). IsFreeRead n k (gammoid vertices arcs sources targets) p r.0 r.1)
    (found-same (paths lists.0.0, lists.0.1) (part, q) lists.2)
    (record { in_range = (read.in_range.count, read.in_range.each); spelled = read.spelled })

probes_found : (n k dim : ℕ) (columns : List ℕ) (p : LinesLeft) (part : FreePart) (q : LinesLeft)
    → free_at n k (gf2 dim columns) p ≡ Ok (part, q) → IsFreeRead n k (gf2 dim columns) p part q
unfolding free_at
probes_found n k dim columns p part q e =
    let numbers = bind_found (repeat_at (binary_line_at (codes "probe") dim) k p) (λ numbers. Ok (probes numbers.0, numbers.1)) (part, q) e in
    let read = items_found (binary_line_at (codes "probe") dim) (λ z. z < 2 ^ dim) (binary_line (codes "probe") dim)
    (binary_line_found (codes "probe") dim) k p numbers.0.0 numbers.0.1 numbers.1 in
    subst (λ (r : FreePart × LinesLeft). IsFreeRead n k (gf2 dim columns) p r.0 r.1)
    (found-same (probes numbers.0.0, numbers.0.1) (part, q) numbers.2)
    (record { in_range = (read.in_range.count, read.in_range.each); spelled = read.spelled })

-- the lines of a counted matroid
as_counted : (n k : ℕ) (tree : Tree) (p : LinesLeft) (part : FreePart) (q : LinesLeft) → IsFreeFor n k tree count
    → free_lines tree count ≡ (codes "count" ∷ []) ∷ [] → IsRead (part ≡ count) ((codes "count" ∷ []) ∷ []) p q
    → IsFreeRead n k tree p part q
as_counted n k tree p part q fits lines read =
    subst (λ (r : FreePart). IsFreeRead n k tree p r q) (sym read.in_range)
    (record {
      in_range = fits;
      spelled = λ rest left. subst (λ (ls : List Line). AreLeft (ls ++ rest) p) (sym lines) (read.spelled rest left);
    })

pub free_found : (n k : ℕ) (tree : Tree) (p : LinesLeft) (part : FreePart) (q : LinesLeft) → is_witnessed tree ≡ true
    → free_at n k tree p ≡ Ok (part, q) → IsRead (IsFreeFor n k tree part) (free_lines tree part) p q
unfolding free_at
free_found n k (uniform m cap) p part q kind e = as_counted n k (uniform m cap) p part q tt refl (count_found p part q e)
free_found n k (partition m classes caps) p part q kind e =
    as_counted n k (partition m classes caps) p part q tt refl (count_found p part q e)
free_found n k (laminar m sets caps) p part q kind e = as_counted n k (laminar m sets caps) p part q tt refl (count_found p part q e)
free_found n k (graphic vertices edges) p part q kind e = forest_found n k vertices edges p part q e
free_found n k (gammoid vertices arcs sources targets) p part q kind e = paths_found n k vertices arcs sources targets p part q e
free_found n k (gf2 dim columns) p part q kind e = probes_found n k dim columns p part q e
free_found n k _ p part q kind e = absurd cc

count_again : (p : LinesLeft) (rest : List Line) → AreLeft ((codes "count" ∷ []) ∷ rest) p
    → IsReadAgain (count_at p) count rest
count_again p rest left =
    let line = counted_again (codes "count") 0 p [] rest refl refl refl left in
    (line.0, rw line.1 refl, line.2)

forest_again : (n k vertices : ℕ) (edges : List (ℕ × ℕ)) (pairs : List (ℕ × ℕ)) (p : LinesLeft) (rest : List Line) → length pairs ≡ k
    → All (IsPairIn n vertices) pairs → AreLeft ((codes "forest" ∷ pairs_words pairs) ∷ rest) p
    → IsReadAgain (free_at n k (graphic vertices edges) p) (forest pairs) rest
unfolding free_at
forest_again n k vertices edges pairs p rest size each left =
    let long : length (pairs_words pairs) ≡ 2 * k = length-pairs_words pairs ∙ ap (λ (m : ℕ). 2 * m) size in
    let line = counted_again (codes "forest") (2 * k) p (pairs_words pairs) rest refl
    (numerals_words (flat_map (λ pair. pair.0 ∷ pair.1 ∷ []) pairs)) long left in
    let whole : pairs_words pairs ++ [] ≡ pairs_words pairs = append-nil (pairs_words pairs) in
    let read = rw (whole, size) at (pairs_again n vertices p.line pairs [] each) in
    (line.0, rw (line.1, read) refl, line.2)

paths_again : (n k vertices : ℕ) (arcs : List (ℕ × ℕ)) (sources targets : List ℕ) (lists : List (List ℕ)) (p : LinesLeft) (rest : List Line)
    → length lists ≡ k → All (IsPathIn vertices) lists → AreLeft (map (members_line (codes "path")) lists ++ rest) p
    → IsReadAgain (free_at n k (gammoid vertices arcs sources targets) p) (paths lists) rest
unfolding free_at
paths_again n k vertices arcs sources targets lists p rest size each left =
    let read = items_again (path_at vertices) (IsPathIn vertices) (members_line (codes "path")) (path_again vertices) p lists rest each left in
    (read.0, rw (← size, read.1) refl, read.2)

probes_again : (n k dim : ℕ) (columns numbers : List ℕ) (p : LinesLeft) (rest : List Line) → 1 ≤ dim → length numbers ≡ k
    → All (λ z. z < 2 ^ dim) numbers → AreLeft (map (binary_line (codes "probe") dim) numbers ++ rest) p
    → IsReadAgain (free_at n k (gf2 dim columns) p) (probes numbers) rest
unfolding free_at
probes_again n k dim columns numbers p rest some size each left =
    let read = items_again (binary_line_at (codes "probe") dim) (λ z. z < 2 ^ dim) (binary_line (codes "probe") dim)
    (λ p z rest below left. binary_line_again (codes "probe") dim p z rest refl some below left) p numbers rest each left in
    (read.0, rw (← size, read.1) refl, read.2)

pub free_again : (n k : ℕ) (tree : Tree) (part : FreePart) (p : LinesLeft) (rest : List Line) → HasDigits tree → IsFreeFor n k tree part
    → AreLeft (free_lines tree part ++ rest) p → IsReadAgain (free_at n k tree p) part rest
unfolding free_at
free_again n k (uniform m cap) count p rest some fits left = count_again p rest left
free_again n k (partition m classes caps) count p rest some fits left = count_again p rest left
free_again n k (laminar m sets caps) count p rest some fits left = count_again p rest left
free_again n k (graphic vertices edges) (forest pairs) p rest some fits left = forest_again n k vertices edges pairs p rest fits.0 fits.1 left
free_again n k (gammoid vertices arcs sources targets) (paths lists) p rest some fits left =
    paths_again n k vertices arcs sources targets lists p rest fits.0 fits.1 left
free_again n k (gf2 dim columns) (probes numbers) p rest some fits left = probes_again n k dim columns numbers p rest some fits.0 fits.1 left
free_again n k _ part p rest some fits left = absurd fits
