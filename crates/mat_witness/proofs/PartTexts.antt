-- The text of the parts of a witness, as it is written piece by piece.
use Rattle.mat_witness.proofs.Common.{◌≡◌, ℕ, zero, suc, ◌+◌, ◌<◌, ◌≤◌, pos, List, [], ◌∷◌, ◌++◌, length, map, take, drop, get_or, refl, sym, ap, ◌∙◌, append_assoc, arith, replicate, append-nil, flat_map_more, take_all, take_more, length-map, length-drop, Line, text_of, numeral, members_line}
use Rattle.mat_witness.proofs.Common.{text_of-append, Tree, bound_lines, bounds_lines, BoundPart, AreBoundsFor}
use Rattle.std.specs.List.{flat_map}
use Rattle.mat_words.proofs.WrittenLines.{item_written, line_written}
use Rattle.mat_witness.specs.BoundRows.{row_trees}
use Rattle.mat_witness.proofs.WordRows.{both}

-- a line of a keyword and one word
pub word_line_written : (old key word : List ℕ)
    → (((old ++ key) ++ 32 ∷ []) ++ word) ++ 10 ∷ [] ≡ old ++ text_of ((key ∷ word ∷ []) ∷ [])
word_line_written old key word = simp append_assoc

-- ---- pairs

-- the two words of a pair, each behind a space
abbrev pub pair_bytes : ℕ × ℕ → List ℕ
pair_bytes pair = (32 ∷ numeral (pos pair.0)) ++ 32 ∷ numeral (pos pair.1)

pairs_bytes : (pairs : List (ℕ × ℕ)) → flat_map pair_bytes pairs ≡ flat_map (λ x. 32 ∷ numeral (pos x)) (flat_map both pairs)
pairs_bytes [] = refl
pairs_bytes (pair ∷ pairs) =
    append_assoc (32 ∷ numeral (pos pair.0)) (32 ∷ numeral (pos pair.1)) (flat_map pair_bytes pairs)
    ∙ ap (λ (t : List ℕ). (32 ∷ numeral (pos pair.0)) ++ ((32 ∷ numeral (pos pair.1)) ++ t)) (pairs_bytes pairs)

-- one more pair was written
pub pair_written : (start : List ℕ) (pairs : List (ℕ × ℕ)) (i : ℕ) (out new : List ℕ) → i < length pairs
    → out ≡ start ++ flat_map pair_bytes (take i pairs)
    → new ≡ (out ++ 32 ∷ numeral (pos (get_or pairs i (0, 0)).0)) ++ 32 ∷ numeral (pos (get_or pairs i (0, 0)).1)
    → new ≡ start ++ flat_map pair_bytes (take (i + 1) pairs)
pair_written start pairs i out new inside so_far last =
    let pair = get_or pairs i (0, 0) in
    item_written pair_bytes start pairs i (0, 0) out new inside so_far
    (last ∙ append_assoc out (32 ∷ numeral (pos pair.0)) (32 ∷ numeral (pos pair.1)))

-- all pairs were written
pub pairs_written : (old key : List ℕ) (pairs : List (ℕ × ℕ)) (n : ℕ) (out new : List ℕ) → length pairs ≤ n
    → out ≡ (old ++ key) ++ flat_map pair_bytes (take n pairs) → new ≡ out ++ 10 ∷ []
    → new ≡ old ++ text_of (members_line key (flat_map (λ pair. pair.0 ∷ pair.1 ∷ []) pairs) ∷ [])
pairs_written old key pairs n out new done so_far last =
    let xs = flat_map both pairs in
    let words : List ℕ = flat_map (λ x. 32 ∷ numeral (pos x)) xs in
    let whole : out ≡ (old ++ key) ++ flat_map (λ x. 32 ∷ numeral (pos x)) (take (length xs) xs) =
    so_far ∙ ap (λ (ps : List (ℕ × ℕ)). (old ++ key) ++ flat_map pair_bytes ps) (take_all n pairs done)
    ∙ ap (λ (t : List ℕ). (old ++ key) ++ t) (pairs_bytes pairs)
    ∙ ap (λ (ys : List ℕ). (old ++ key) ++ flat_map (λ x. 32 ∷ numeral (pos x)) ys) (sym (take_all (length xs) xs (omega arith))) in
    line_written (λ x. numeral (pos x)) old key xs (length xs) out new (omega arith) whole last

-- ---- parts of more lines

-- the text after one more part was written
pub part_added : {A : Type 0} (lines_of : A → List Line) (old : List ℕ) (items : List A) (k : ℕ) (item : A) (out new : List ℕ)
    → k < length items → item ≡ get_or items k item
    → out ≡ old ++ text_of (flat_map lines_of (take k items)) → new ≡ out ++ text_of (lines_of item)
    → new ≡ old ++ text_of (flat_map lines_of (take (k + 1) items))
part_added {A} lines_of old items k item out new inside at so_far last =
    let before = flat_map lines_of (take k items) in
    let more : take (k + 1) items ≡ take k items ++ item ∷ [] = take_more items k item inside ∙ ap (λ x. take k items ++ x ∷ []) (sym at) in
    let lines : before ++ lines_of item ≡ flat_map lines_of (take (k + 1) items) =
    flat_map_more lines_of [] (take k items) item ∙ ap (flat_map lines_of) (sym more) in
    last ∙ ap (λ (t : List ℕ). t ++ text_of (lines_of item)) so_far ∙ append_assoc old (text_of before) (text_of (lines_of item))
    ∙ ap (λ (t : List ℕ). old ++ t) (sym (text_of-append before (lines_of item)) ∙ ap text_of lines)

-- all parts were written
pub parts_added : {A : Type 0} (lines_of : A → List Line) (old : List ℕ) (items : List A) (n : ℕ) (out : List ℕ) → length items ≤ n
    → out ≡ old ++ text_of (flat_map lines_of (take n items)) → out ≡ old ++ text_of (flat_map lines_of items)
parts_added {A} lines_of old items n out done so_far =
    so_far ∙ ap (λ (xs : List A). old ++ text_of (flat_map lines_of xs)) (take_all n items done)

-- ---- bounds in a row

-- the lines of bounds of one matroid, in front of others
one_matroid : {A : Type 0} (view : A → BoundPart) (many : ℕ) (tree : Tree) (trees : List Tree) (bounds : List A) → many ≤ length bounds
    → bounds_lines (replicate many tree ++ trees) (map view bounds)
    ≡ flat_map (λ bound. bound_lines tree (view bound)) (take many bounds) ++ bounds_lines trees (map view (drop many bounds))
one_matroid view zero tree trees bounds few = refl
one_matroid view (suc many) tree trees [] few = absurd (omega arith)
one_matroid view (suc many) tree trees (bound ∷ bounds) few =
    ap (λ (ls : List Line). bound_lines tree (view bound) ++ ls) (one_matroid view many tree trees bounds (omega arith))
    ∙ sym (append_assoc (bound_lines tree (view bound)) (flat_map (λ bound. bound_lines tree (view bound)) (take many bounds))
    (bounds_lines trees (map view (drop many bounds))))

-- as many as there are matroids
length-bounds : (n : ℕ) (trees : List Tree) (parts : List BoundPart) → AreBoundsFor n trees parts → length parts ≡ length trees
length-bounds n [] [] fits = refl
length-bounds n (tree ∷ trees) (part ∷ parts) fits = ap suc (length-bounds n trees parts fits.1)
length-bounds n _ _ fits = absurd fits

pub length-viewed : {A : Type 0} (view : A → BoundPart) (n : ℕ) (trees : List Tree) (bounds : List A) → AreBoundsFor n trees (map view bounds)
    → length bounds ≡ length trees
length-viewed view n trees bounds fits = sym (length-map bounds view) ∙ length-bounds n trees (map view bounds) fits

-- the lines of a bound as it is seen
abbrev pub viewed_lines : {A : Type 0} → (A → BoundPart) → Tree → A → List Line
viewed_lines view tree bound = bound_lines tree (view bound)

-- bounds in a row, cut into those of each matroid
row_lines : {A : Type 0} (view : A → BoundPart) (first second : Tree) (one two : ℕ) (bounds : List A) → length bounds ≡ one + (two + 2)
    → bounds_lines (row_trees first second one two) (map view bounds)
    ≡ flat_map (viewed_lines view first) (take one bounds) ++ (flat_map (viewed_lines view second) (take two (drop one bounds))
    ++ (flat_map (viewed_lines view first) (take 1 (drop two (drop one bounds)))
    ++ flat_map (viewed_lines view second) (drop 1 (drop two (drop one bounds)))))
row_lines {A} view first second one two bounds count =
    let rest = drop one bounds in
    let last = drop two rest in
    let rest_count : length rest ≡ two + 2 = omega (arith, length-drop {A = A} one bounds, count) in
    let last_count : length last ≡ 2 = omega (arith, length-drop {A = A} two rest, rest_count) in
    let end_count : length (drop 1 last) ≡ 1 = omega (arith, length-drop {A = A} 1 last, last_count) in
    let end : flat_map (viewed_lines view second) (take 1 (drop 1 last)) ++ bounds_lines [] (map view (drop 1 (drop 1 last)))
    ≡ flat_map (viewed_lines view second) (drop 1 last) =
    append-nil (flat_map (viewed_lines view second) (take 1 (drop 1 last)))
    ∙ ap (flat_map (viewed_lines view second)) (take_all 1 (drop 1 last) (omega (arith, end_count))) in
    one_matroid view one first (replicate two second ++ first ∷ second ∷ []) bounds (omega (arith, count))
    ∙ ap (λ (ls : List Line). flat_map (viewed_lines view first) (take one bounds) ++ ls)
    (one_matroid view two second (first ∷ second ∷ []) rest (omega (arith, rest_count))
    ∙ ap (λ (ls : List Line). flat_map (viewed_lines view second) (take two rest) ++ ls)
    (one_matroid view 1 first (second ∷ []) last (omega (arith, last_count))
    ∙ ap (λ (ls : List Line). flat_map (viewed_lines view first) (take 1 last) ++ ls)
    (one_matroid view 1 second [] (drop 1 last) (omega (arith, end_count)) ∙ end)))

-- all bounds in a row were written
row_written : {A : Type 0} (view : A → BoundPart) (first second : Tree) (one two : ℕ) (bounds : List A) (old a b c d : List ℕ)
    → length bounds ≡ one + (two + 2) → a ≡ old ++ text_of (flat_map (viewed_lines view first) (take one bounds))
    → b ≡ a ++ text_of (flat_map (viewed_lines view second) (take two (drop one bounds)))
    → c ≡ b ++ text_of (flat_map (viewed_lines view first) (take 1 (drop two (drop one bounds))))
    → d ≡ c ++ text_of (flat_map (viewed_lines view second) (drop 1 (drop two (drop one bounds))))
    → d ≡ old ++ text_of (bounds_lines (row_trees first second one two) (map view bounds))
row_written {A} view first second one two bounds old a b c d count is_a is_b is_c is_d =
    let p = flat_map (viewed_lines view first) (take one bounds) in
    let q = flat_map (viewed_lines view second) (take two (drop one bounds)) in
    let r = flat_map (viewed_lines view first) (take 1 (drop two (drop one bounds))) in
    let s = flat_map (viewed_lines view second) (drop 1 (drop two (drop one bounds))) in
    let text : text_of (p ++ (q ++ (r ++ s))) ≡ text_of p ++ (text_of q ++ (text_of r ++ text_of s)) =
    text_of-append p (q ++ (r ++ s)) ∙ ap (λ (t : List ℕ). text_of p ++ t)
    (text_of-append q (r ++ s) ∙ ap (λ (t : List ℕ). text_of q ++ t) (text_of-append r s)) in
    let whole : d ≡ (((old ++ text_of p) ++ text_of q) ++ text_of r) ++ text_of s = rw (is_d, is_c, is_b, is_a) refl in
    whole ∙ four old (text_of p) (text_of q) (text_of r) (text_of s)
    ∙ ap (λ (t : List ℕ). old ++ t) (sym text ∙ ap text_of (sym (row_lines view first second one two bounds count)))
  where
    four : (old p q r s : List ℕ) → (((old ++ p) ++ q) ++ r) ++ s ≡ old ++ (p ++ (q ++ (r ++ s)))
    four old p q r s = simp append_assoc

-- the same, where what is left was cut off step by step
pub rows_written : {A : Type 0} (view : A → BoundPart) (first second : Tree) (one two : ℕ) (bounds rest last end : List A)
    (old a b c d : List ℕ)
    → length bounds ≡ one + (two + 2) → rest ≡ drop one bounds → last ≡ drop two rest → end ≡ drop 1 last
    → a ≡ old ++ text_of (flat_map (viewed_lines view first) (take one bounds))
    → b ≡ a ++ text_of (flat_map (viewed_lines view second) (take two rest))
    → c ≡ b ++ text_of (flat_map (viewed_lines view first) (take 1 last))
    → d ≡ c ++ text_of (flat_map (viewed_lines view second) end)
    → d ≡ old ++ text_of (bounds_lines (row_trees first second one two) (map view bounds))
rows_written {A} view first second one two bounds rest last end old a b c d count is_rest is_last is_end is_a is_b is_c is_d =
    let cut : last ≡ drop two (drop one bounds) = is_last ∙ ap (λ (xs : List A). drop two xs) is_rest in
    let ending : end ≡ drop 1 (drop two (drop one bounds)) = is_end ∙ ap (λ (xs : List A). drop 1 xs) cut in
    row_written view first second one two bounds old a b c d count is_a
    (is_b ∙ ap (λ (xs : List A). a ++ text_of (flat_map (viewed_lines view second) (take two xs))) is_rest)
    (is_c ∙ ap (λ (xs : List A). b ++ text_of (flat_map (viewed_lines view first) (take 1 xs))) cut)
    (is_d ∙ ap (λ (xs : List A). c ++ text_of (flat_map (viewed_lines view second) xs)) ending)
