-- The lines of one part of a witness: what is read is spelled so, and what is spelled so is read.
use Rattle.mat_witness.proofs.Common.{◌≡◌, ℕ, ◌^◌, ◌<◌, ◌≤◌, pos, true, List, [], ◌∷◌, ◌++◌, length, Ok, refl, sym, subst, ◌∙◌, arith, codes, and_from, append-nil, length-map, AllBelow, binary, LinesLeft, Line, numeral, numerals, ◌>>=◌, repeat_at, is_word, members_line, AreLeft, keyed_again}
use Rattle.mat_witness.proofs.Common.{found-same, bind_found, told_found, told_again, below_again, numerals_words, below_at, counted_at, keyed_at, told, kind_of, IsRead, IsReadAgain, line_read, below_read, then_words, whole_line, binary_line, binary_line_at, path_at, counted_found, counted_again}
use Rattle.mat_words.specs.Reading as any_text
use Rattle.mat_words.proofs.BinaryLaws.{binary_found, binary_again, binary_word}
use Rattle.mat_witness.proofs.WordRows.{numbers_found, numbers_again}

-- ---- a line of a keyword and a binary number

pub binary_line_found : (key : List ℕ) (d : ℕ) (p : LinesLeft) (z : ℕ) (q : LinesLeft) → binary_line_at key d p ≡ Ok (z, q)
    → IsRead (z < 2 ^ d) (binary_line key d z ∷ []) p q
unfolding binary_line_at
binary_line_found key d p z q e =
    let line = bind_found (counted_at key 1 p) (λ line. told (any_text.binary_at d line.0) >>= λ number. Ok (number.0, line.1)) (z, q) e in
    let number = bind_found (told (any_text.binary_at d line.0.0)) (λ number. Ok (number.0, line.0.1)) (z, q) line.2 in
    let counted = counted_found key 1 p line.0.0 line.0.1 line.1 in
    let read = binary_found d line.0.0 number.0.0 number.0.1 (told_found kind_of (any_text.binary_at d line.0.0) number.0 number.1) in
    let words = whole_line (binary d number.0.0 ∷ []) number.0.1.words line.0.0.words read.cut counted.count in
    subst (λ (r : ℕ × LinesLeft). IsRead (r.0 < 2 ^ d) (binary_line key d r.0 ∷ []) p r.1) (found-same (number.0.0, line.0.1) (z, q) number.2)
    (record {
      in_range = read.below;
      spelled = λ rest left. subst (λ (ws : Line). AreLeft ((key ∷ ws) ∷ rest) p) words (counted.spelled rest left);
    })

pub binary_line_again : (key : List ℕ) (d : ℕ) (p : LinesLeft) (z : ℕ) (rest : List Line) → is_word key ≡ true → 1 ≤ d → z < 2 ^ d
    → AreLeft (binary_line key d z ∷ rest) p → IsReadAgain (binary_line_at key d p) z rest
unfolding binary_line_at
binary_line_again key d p z rest keyword some below left =
    let spelled = and_from (is_word (binary d z)) true (binary_word d z some) refl in
    let line = counted_again key 1 p (binary d z ∷ []) rest keyword spelled refl left in
    let number = told_again kind_of (any_text.binary_at d (record { line = p.line; words = binary d z ∷ [] })) (z, record { line = p.line; words = [] })
    (binary_again d p.line z [] below) in
    (line.0, rw (line.1, number) refl, line.2)

-- ---- a line of a path

-- a path has at least one vertex
abbrev pub IsPathIn : ℕ → List ℕ → Type 0
IsPathIn vertices path = (0 < length path) × AllBelow vertices path

pub path_found : (vertices : ℕ) (p : LinesLeft) (path : List ℕ) (q : LinesLeft) → path_at vertices p ≡ Ok (path, q)
    → IsRead (IsPathIn vertices path) (members_line (codes "path") path ∷ []) p q
unfolding path_at
path_found vertices p path q e =
    let line = bind_found (keyed_at (codes "path") p)
    (λ line. below_at vertices line.0 >>= λ first. repeat_at (below_at vertices) (length first.1.words) first.1
    >>= λ others. Ok (first.0 ∷ others.0, line.1)) (path, q) e in
    let first = bind_found (below_at vertices line.0.0)
    (λ first. repeat_at (below_at vertices) (length first.1.words) first.1 >>= λ others. Ok (first.0 ∷ others.0, line.0.1)) (path, q) line.2 in
    let others = bind_found (repeat_at (below_at vertices) (length first.0.1.words) first.0.1)
    (λ others. Ok (first.0.0 ∷ others.0, line.0.1)) (path, q) first.2 in
    let one = below_read vertices line.0.0 first.0.0 first.0.1 first.1 in
    let more = numbers_found vertices (length first.0.1.words) first.0.1 others.0.0 others.0.1 others.1 in
    let tail = whole_line (numerals others.0.0) others.0.1.words first.0.1.words more.cut
    (sym more.count ∙ sym (length-map others.0.0 (λ x. numeral (pos x)))) in
    let words : line.0.0.words ≡ numerals (first.0.0 ∷ others.0.0) = then_words one.cut tail in
    subst (λ (r : List ℕ × LinesLeft). IsRead (IsPathIn vertices r.0) (members_line (codes "path") r.0 ∷ []) p r.1)
    (found-same (first.0.0 ∷ others.0.0, line.0.1) (path, q) others.2) (record {
      in_range = (omega arith, (one.most, more.below));
      spelled = λ rest left. subst (λ (ws : Line). AreLeft ((codes "path" ∷ ws) ∷ rest) p) words (line_read (codes "path") p line.0 line.1 rest left);
    })

-- the words of numbers that are all that is left of a line
rest_again : (bound line : ℕ) (xs : List ℕ) → AllBelow bound xs
    → repeat_at (below_at bound) (length (numerals xs)) (record { line = line; words = numerals xs })
    ≡ Ok (xs, record { line = line; words = [] })
rest_again bound line xs below =
    let long : length (numerals xs) ≡ length xs = length-map xs (λ x. numeral (pos x)) in
    let whole : numerals xs ++ [] ≡ numerals xs = append-nil (numerals xs) in
    rw long (rw whole at (numbers_again bound line xs [] below))

pub path_again : (vertices : ℕ) (p : LinesLeft) (path : List ℕ) (rest : List Line) → IsPathIn vertices path
    → AreLeft (members_line (codes "path") path ∷ rest) p → IsReadAgain (path_at vertices p) path rest
unfolding path_at
path_again vertices p [] rest inside left = absurd (omega (arith, inside.0))
path_again vertices p (x ∷ xs) rest inside left =
    let line = keyed_again (codes "path") p (numerals (x ∷ xs)) rest refl (numerals_words (x ∷ xs)) left in
    let first = told_again kind_of (any_text.below_at vertices (record { line = p.line; words = numerals (x ∷ xs) }))
    (x, record { line = p.line; words = numerals xs }) (below_again vertices p.line x (numerals xs) inside.1.0) in
    (line.0, rw (line.1, first, rest_again vertices p.line xs inside.1.1) refl, line.2)
