-- The lines of a bound: what is read is spelled so, and what is spelled so is read.
use Rattle.mat_witness.proofs.Common.{◌≡◌, ℕ, ◌^◌, ◌<◌, ◌≤◌, pos, true, List, [], ◌∷◌, ◌++◌, length, map, Result, Ok, refl, sym, ap, subst, ◌∙◌, arith, codes, and_from, append-nil, length-map, AllBelow, IsSet, LinesLeft, Line, numeral, numerals, ◌>>=◌, repeat_at, is_word, members_line, AreLeft}
use Rattle.mat_witness.proofs.Common.{numeral_word, found-same, bind_found, told_again, numerals_words, size_again, Tree, uniform, partition, laminar, graphic, gammoid, gf2, below_at, counted_at, set_at, size_at, Fault, kind_of, IsRead, IsReadAgain, set_found, set_again, size_read, whole_line}
use Rattle.mat_witness.proofs.Common.{is_witnessed, binary_line, bound_lines, AreSpent, BoundPart, IsBoundFor, spent, labels, gate, zeros, binary_line_at, bound_at, counted_found, counted_again}
use Rattle.std.specs.List.{All}
use Rattle.mat_words.specs.Reading as any_text
use Rattle.mat_cert.proofs.ListLaws.{items_found, items_again}
use Rattle.mat_witness.proofs.WordRows.{numbers_found, numbers_again}
use Rattle.mat_witness.proofs.PartLines.{binary_line_found, binary_line_again}
use Rattle.mat_witness.proofs.FreeLines.{HasDigits}

-- a bound was read
abbrev IsBoundRead : ℕ → Tree → LinesLeft → BoundPart → LinesLeft → Type 0
IsBoundRead n tree p part q = IsRead (IsBoundFor n tree part) (bound_lines tree part) p q

-- ---- one bound that was read

-- two sets in two lines, of which a bound is made
abbrev sets_at : List ℕ → List ℕ → ℕ → ℕ → (List ℕ → List ℕ → BoundPart) → LinesLeft → Result (BoundPart × LinesLeft) Fault
sets_at key other n many made p = set_at key n p >>= λ elements. set_at other many elements.1 >>= λ chosen. Ok (made elements.0 chosen.0, chosen.1)

-- such a bound for a matroid, with its lines
sets_found : (total : ℕ) (tree : Tree) (key other : List ℕ) (n many : ℕ) (made : List ℕ → List ℕ → BoundPart) (p : LinesLeft) (part : BoundPart)
    (q : LinesLeft)
    → ((elements chosen : List ℕ) → IsSet n elements → IsSet many chosen → IsBoundFor total tree (made elements chosen))
    → ((elements chosen : List ℕ) → bound_lines tree (made elements chosen) ≡ members_line key elements ∷ members_line other chosen ∷ [])
    → sets_at key other n many made p ≡ Ok (part, q) → IsBoundRead total tree p part q
sets_found total tree key other n many made p part q fits lines e =
    let elements = bind_found (set_at key n p)
    (λ elements. set_at other many elements.1 >>= λ chosen. Ok (made elements.0 chosen.0, chosen.1)) (part, q) e in
    let chosen = bind_found (set_at other many elements.0.1) (λ chosen. Ok (made elements.0.0 chosen.0, chosen.1)) (part, q) elements.2 in
    let first = set_found key n p elements.0.0 elements.0.1 elements.1 in
    let second = set_found other many elements.0.1 chosen.0.0 chosen.0.1 chosen.1 in
    subst (λ (r : BoundPart × LinesLeft). IsBoundRead total tree p r.0 r.1)
    (found-same (made elements.0.0 chosen.0.0, chosen.0.1) (part, q) chosen.2) (record {
      in_range = fits elements.0.0 chosen.0.0 first.in_range second.in_range;
      spelled = λ rest left. subst (λ (ls : List Line). AreLeft (ls ++ rest) p) (sym (lines elements.0.0 chosen.0.0))
          (first.spelled (members_line other chosen.0.0 ∷ rest) (second.spelled rest left));
    })

-- that of a counted matroid that lists so many sets
spent_found : (n many : ℕ) (tree : Tree) (p : LinesLeft) (part : BoundPart) (q : LinesLeft)
    → ((elements chosen : List ℕ) → AreSpent n many elements chosen → IsBoundFor n tree (spent elements chosen))
    → sets_at (codes "spent") (codes "sets") n many spent p ≡ Ok (part, q) → IsBoundRead n tree p part q
spent_found n many tree p part q fits e = sets_found n tree (codes "spent") (codes "sets") n many spent p part q
    (λ elements chosen one two. fits elements chosen (record { elements_inside = one; chosen_inside = two })) (λ elements chosen. refl) e

labels_found : (n vertices : ℕ) (edges : List (ℕ × ℕ)) (p : LinesLeft) (part : BoundPart) (q : LinesLeft)
    → bound_at n (graphic vertices edges) p ≡ Ok (part, q) → IsBoundRead n (graphic vertices edges) p part q
unfolding bound_at
labels_found n vertices edges p part q e =
    let line = bind_found (counted_at (codes "labels") vertices p)
    (λ line. repeat_at (below_at vertices) vertices line.0 >>= λ numbers. Ok (labels numbers.0, line.1)) (part, q) e in
    let numbers = bind_found (repeat_at (below_at vertices) vertices line.0.0) (λ numbers. Ok (labels numbers.0, line.0.1)) (part, q) line.2 in
    let counted = counted_found (codes "labels") vertices p line.0.0 line.0.1 line.1 in
    let read = numbers_found vertices vertices line.0.0 numbers.0.0 numbers.0.1 numbers.1 in
    let words = whole_line (numerals numbers.0.0) numbers.0.1.words line.0.0.words read.cut
    (counted.count ∙ sym read.count ∙ sym (length-map numbers.0.0 (λ x. numeral (pos x)))) in
    subst (λ (r : BoundPart × LinesLeft). IsBoundRead n (graphic vertices edges) p r.0 r.1)
    (found-same (labels numbers.0.0, line.0.1) (part, q) numbers.2) (record {
      in_range = (read.count, read.below);
      spelled = λ rest left. subst (λ (ws : Line). AreLeft ((codes "labels" ∷ ws) ∷ rest) p) words (counted.spelled rest left);
    })

gate_found : (n vertices : ℕ) (arcs : List (ℕ × ℕ)) (sources targets : List ℕ) (p : LinesLeft) (part : BoundPart) (q : LinesLeft)
    → bound_at n (gammoid vertices arcs sources targets) p ≡ Ok (part, q) → IsBoundRead n (gammoid vertices arcs sources targets) p part q
unfolding bound_at
gate_found n vertices arcs sources targets p part q e = sets_found n (gammoid vertices arcs sources targets) (codes "reach") (codes "gate")
    vertices vertices gate p part q (λ reached closing one two. (one, two)) (λ reached closing. refl) e

zeros_found : (n dim : ℕ) (columns : List ℕ) (p : LinesLeft) (part : BoundPart) (q : LinesLeft)
    → bound_at n (gf2 dim columns) p ≡ Ok (part, q) → IsBoundRead n (gf2 dim columns) p part q
unfolding bound_at
zeros_found n dim columns p part q e =
    let line = bind_found (counted_at (codes "zeros") 1 p)
    (λ line. size_at 0 dim line.0 >>= λ many. repeat_at (binary_line_at (codes "zero") dim) many.0 line.1
    >>= λ numbers. Ok (zeros numbers.0, numbers.1)) (part, q) e in
    let many = bind_found (size_at 0 dim line.0.0)
    (λ many. repeat_at (binary_line_at (codes "zero") dim) many.0 line.0.1 >>= λ numbers. Ok (zeros numbers.0, numbers.1)) (part, q) line.2 in
    let numbers = bind_found (repeat_at (binary_line_at (codes "zero") dim) many.0.0 line.0.1)
    (λ numbers. Ok (zeros numbers.0, numbers.1)) (part, q) many.2 in
    let counted = counted_found (codes "zeros") 1 p line.0.0 line.0.1 line.1 in
    let size = size_read 0 dim line.0.0 many.0.0 many.0.1 many.1 in
    let words = whole_line (numeral (pos many.0.0) ∷ []) many.0.1.words line.0.0.words size.cut counted.count in
    let read = items_found (binary_line_at (codes "zero") dim) (λ z. z < 2 ^ dim) (binary_line (codes "zero") dim)
    (binary_line_found (codes "zero") dim) many.0.0 line.0.1 numbers.0.0 numbers.0.1 numbers.1 in
    let as_many : many.0.0 ≡ length numbers.0.0 = sym read.in_range.count in
    subst (λ (r : BoundPart × LinesLeft). IsBoundRead n (gf2 dim columns) p r.0 r.1)
    (found-same (zeros numbers.0.0, numbers.0.1) (part, q) numbers.2) (record {
      in_range = (subst (λ (m : ℕ). m ≤ dim) as_many size.most, read.in_range.each);
      spelled = λ rest left.
          subst (λ (ws : Line). AreLeft ((codes "zeros" ∷ ws) ∷ map (binary_line (codes "zero") dim) numbers.0.0 ++ rest) p)
          (words ∙ ap (λ (m : ℕ). numeral (pos m) ∷ []) as_many)
          (counted.spelled (map (binary_line (codes "zero") dim) numbers.0.0 ++ rest) (read.spelled rest left));
    })

pub bound_found : (n : ℕ) (tree : Tree) (p : LinesLeft) (part : BoundPart) (q : LinesLeft) → is_witnessed tree ≡ true
    → bound_at n tree p ≡ Ok (part, q) → IsRead (IsBoundFor n tree part) (bound_lines tree part) p q
unfolding bound_at
bound_found n (uniform m cap) p part q kind e = spent_found n 1 (uniform m cap) p part q (λ elements chosen h. h) e
bound_found n (partition m classes caps) p part q kind e =
    spent_found n (length classes) (partition m classes caps) p part q (λ elements chosen h. h) e
bound_found n (laminar m sets caps) p part q kind e = spent_found n (length sets) (laminar m sets caps) p part q (λ elements chosen h. h) e
bound_found n (graphic vertices edges) p part q kind e = labels_found n vertices edges p part q e
bound_found n (gammoid vertices arcs sources targets) p part q kind e = gate_found n vertices arcs sources targets p part q e
bound_found n (gf2 dim columns) p part q kind e = zeros_found n dim columns p part q e
bound_found n _ p part q kind e = absurd cc

-- ---- one bound that is read again

sets_again : (key other : List ℕ) (n many : ℕ) (made : List ℕ → List ℕ → BoundPart) (elements chosen : List ℕ) (p : LinesLeft) (rest : List Line)
    → is_word key ≡ true → is_word other ≡ true → IsSet n elements → IsSet many chosen
    → AreLeft (members_line key elements ∷ members_line other chosen ∷ rest) p
    → IsReadAgain (sets_at key other n many made p) (made elements chosen) rest
sets_again key other n many made elements chosen p rest one two elements_inside chosen_inside left =
    let first = set_again key n p elements (members_line other chosen ∷ rest) one elements_inside left in
    let second = set_again other many first.0 chosen rest two chosen_inside first.2 in
    (second.0, rw (first.1, second.1) refl, second.2)

spent_again : (n many : ℕ) (elements chosen : List ℕ) (p : LinesLeft) (rest : List Line) → AreSpent n many elements chosen
    → AreLeft (members_line (codes "spent") elements ∷ members_line (codes "sets") chosen ∷ rest) p
    → IsReadAgain (sets_at (codes "spent") (codes "sets") n many spent p) (spent elements chosen) rest
spent_again n many elements chosen p rest inside left = sets_again (codes "spent") (codes "sets") n many spent elements chosen p rest refl refl
    inside.elements_inside inside.chosen_inside left

labels_again : (n vertices : ℕ) (edges : List (ℕ × ℕ)) (numbers : List ℕ) (p : LinesLeft) (rest : List Line) → length numbers ≡ vertices
    → AllBelow vertices numbers → AreLeft (members_line (codes "labels") numbers ∷ rest) p
    → IsReadAgain (bound_at n (graphic vertices edges) p) (labels numbers) rest
unfolding bound_at
labels_again n vertices edges numbers p rest size below left =
    let long : length (numerals numbers) ≡ vertices = length-map numbers (λ x. numeral (pos x)) ∙ size in
    let line = counted_again (codes "labels") vertices p (numerals numbers) rest refl (numerals_words numbers) long left in
    let whole : numerals numbers ++ [] ≡ numerals numbers = append-nil (numerals numbers) in
    let counted : repeat_at (below_at vertices) (length numbers) (record { line = p.line; words = numerals numbers })
    ≡ Ok (numbers, record { line = p.line; words = [] }) = rw whole at (numbers_again vertices p.line numbers [] below) in
    let read = subst (λ (m : ℕ). repeat_at (below_at vertices) m (record { line = p.line; words = numerals numbers })
    ≡ Ok (numbers, record { line = p.line; words = [] })) size counted in
    (line.0, rw (line.1, read) refl, line.2)

zeros_again : (n dim : ℕ) (columns numbers : List ℕ) (p : LinesLeft) (rest : List Line) → 1 ≤ dim → length numbers ≤ dim
    → All (λ z. z < 2 ^ dim) numbers
    → AreLeft ((codes "zeros" ∷ numeral (pos (length numbers)) ∷ []) ∷ map (binary_line (codes "zero") dim) numbers ++ rest) p
    → IsReadAgain (bound_at n (gf2 dim columns) p) (zeros numbers) rest
unfolding bound_at
zeros_again n dim columns numbers p rest some few each left =
    let many = length numbers in
    let lines = map (binary_line (codes "zero") dim) numbers ++ rest in
    let spelled = and_from (is_word (numeral (pos many))) true (numeral_word (pos many)) refl in
    let line = counted_again (codes "zeros") 1 p (numeral (pos many) ∷ []) lines refl spelled refl left in
    let size = told_again kind_of (any_text.size_at 0 dim (record { line = p.line; words = numeral (pos many) ∷ [] }))
    (many, record { line = p.line; words = [] }) (size_again 0 dim p.line many [] (omega arith) few) in
    let read = items_again (binary_line_at (codes "zero") dim) (λ z. z < 2 ^ dim) (binary_line (codes "zero") dim)
    (λ p z rest below left. binary_line_again (codes "zero") dim p z rest refl some below left) line.0 numbers rest each line.2 in
    (read.0, rw (line.1, size, read.1) refl, read.2)

pub bound_again : (n : ℕ) (tree : Tree) (part : BoundPart) (p : LinesLeft) (rest : List Line) → HasDigits tree → IsBoundFor n tree part
    → AreLeft (bound_lines tree part ++ rest) p → IsReadAgain (bound_at n tree p) part rest
unfolding bound_at
bound_again n (uniform m cap) (spent elements chosen) p rest some fits left = spent_again n 1 elements chosen p rest fits left
bound_again n (partition m classes caps) (spent elements chosen) p rest some fits left =
    spent_again n (length classes) elements chosen p rest fits left
bound_again n (laminar m sets caps) (spent elements chosen) p rest some fits left = spent_again n (length sets) elements chosen p rest fits left
bound_again n (graphic vertices edges) (labels numbers) p rest some fits left = labels_again n vertices edges numbers p rest fits.0 fits.1 left
bound_again n (gammoid vertices arcs sources targets) (gate reached closing) p rest some fits left =
    sets_again (codes "reach") (codes "gate") vertices vertices gate reached closing p rest refl refl fits.0 fits.1 left
bound_again n (gf2 dim columns) (zeros numbers) p rest some fits left = zeros_again n dim columns numbers p rest some fits.0 fits.1 left
bound_again n _ part p rest some fits left = absurd fits
