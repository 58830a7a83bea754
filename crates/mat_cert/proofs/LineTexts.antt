-- The text of the lines of rungs, one rung after the other, and of a certificate, part by part.
use Rattle.mat_cert.proofs.Common.{◌≡◌, ℕ, ◌+◌, ◌<◌, suc, List, [], ◌∷◌, ◌++◌, length, map, take, get_or, sym, ap, ◌∙◌, arith, zero-add, append_assoc, append-nil, map-append, take_more, length-take, Line, text_of, text_of-append, version_line, header_line, rungs_lines}

-- the lines of one more rung
rungs_lines_push : {R : Type 0} (lines_of_rung : ℕ → R → List Line) (k : ℕ) (rungs : List R) (rung : R)
    → rungs_lines lines_of_rung k (rungs ++ rung ∷ []) ≡ rungs_lines lines_of_rung k rungs ++ lines_of_rung (length rungs + k) rung
rungs_lines_push lines_of_rung k [] rung = rw zero-add (append-nil (lines_of_rung k rung))
rungs_lines_push lines_of_rung k (r ∷ rs) rung =
    let same : length rs + suc k ≡ suc (length rs) + k = omega arith in
    ap (λ (t : List Line). lines_of_rung k r ++ t)
    (rungs_lines_push lines_of_rung (suc k) rs rung ∙ ap (λ (i : ℕ). rungs_lines lines_of_rung (suc k) rs ++ lines_of_rung i rung) same)
    ∙ sym (append_assoc (lines_of_rung k r) (rungs_lines lines_of_rung (suc k) rs) (lines_of_rung (suc (length rs) + k) rung))

-- the text after one more rung was written
pub rung_written : {R : Type 0} (lines_of_rung : ℕ → R → List Line) (old : List ℕ) (rungs : List R) (k : ℕ) (rung : R) (out new : List ℕ)
    → k < length rungs → rung ≡ get_or rungs k rung
    → out ≡ old ++ text_of (rungs_lines lines_of_rung 0 (take k rungs)) → new ≡ out ++ text_of (lines_of_rung k rung)
    → new ≡ old ++ text_of (rungs_lines lines_of_rung 0 (take (k + 1) rungs))
rung_written {R} lines_of_rung old rungs k rung out new inside at loop last =
    let so_far = rungs_lines lines_of_rung 0 (take k rungs) in
    let more : take (k + 1) rungs ≡ take k rungs ++ rung ∷ [] = take_more rungs k rung inside ∙ ap (λ r. take k rungs ++ r ∷ []) (sym at) in
    let place : length (take k rungs) + 0 ≡ k = omega (arith, length-take {A = R}) in
    let lines : rungs_lines lines_of_rung 0 (take (k + 1) rungs) ≡ so_far ++ lines_of_rung k rung =
    ap (rungs_lines lines_of_rung 0) more ∙ rungs_lines_push lines_of_rung 0 (take k rungs) rung ∙ ap
    (λ (i : ℕ). so_far ++ lines_of_rung i rung) place in
    last ∙ ap (λ (t : List ℕ). t ++ text_of (lines_of_rung k rung)) loop ∙ append_assoc old (text_of so_far) (text_of (lines_of_rung k rung))
    ∙ ap (λ (t : List ℕ). old ++ t) (sym (ap text_of lines ∙ text_of-append so_far (lines_of_rung k rung)))

-- the two lines that begin a certificate
abbrev pub opening : List ℕ → Line → List Line
opening command words = version_line ∷ header_line command words ∷ []

-- the text after one more item was written on a line of its own
pub line_added : {A : Type 0} (line_of : A → Line) (old : List ℕ) (items : List A) (k : ℕ) (item : A) (out new : List ℕ)
    → k < length items → item ≡ get_or items k item
    → out ≡ old ++ text_of (map line_of (take k items)) → new ≡ out ++ text_of (line_of item ∷ [])
    → new ≡ old ++ text_of (map line_of (take (k + 1) items))
line_added {A} line_of old items k item out new inside at so_far last =
    let before = map line_of (take k items) in
    let more : take (k + 1) items ≡ take k items ++ item ∷ [] = take_more items k item inside ∙ ap (λ x. take k items ++ x ∷ []) (sym at) in
    let lines : map line_of (take (k + 1) items) ≡ before ++ line_of item ∷ [] =
    ap (map line_of) more ∙ map-append line_of (take k items) (item ∷ []) in
    last ∙ ap (λ (t : List ℕ). t ++ text_of (line_of item ∷ [])) so_far ∙ append_assoc old (text_of before) (text_of (line_of item ∷ []))
    ∙ ap (λ (t : List ℕ). old ++ t) (sym (ap text_of lines ∙ text_of-append before (line_of item ∷ [])))

-- ---- pieces of a text that were written one after the other

pub two_pieces : (head last : List Line) (a b : List ℕ) → a ≡ text_of head → b ≡ a ++ text_of last → b ≡ text_of (head ++ last)
two_pieces head last a b first second = second ∙ ap (λ (t : List ℕ). t ++ text_of last) first ∙ sym (text_of-append head last)

pub three_pieces : (head middle last : List Line) (a b c : List ℕ) → a ≡ text_of head → b ≡ a ++ text_of middle → c ≡ b ++ text_of last
    → c ≡ text_of (head ++ (middle ++ last))
three_pieces head middle last a b c first second third =
    two_pieces (head ++ middle) last b c (two_pieces head middle a b first second) third ∙ ap text_of (append_assoc head middle last)

pub four_pieces : (head one two last : List Line) (a b c d : List ℕ) → a ≡ text_of head → b ≡ a ++ text_of one → c ≡ b ++ text_of two
    → d ≡ c ++ text_of last → d ≡ text_of (head ++ (one ++ (two ++ last)))
four_pieces head one two last a b c d first second third fourth =
    three_pieces (head ++ one) two last b c d (two_pieces head one a b first second) third fourth
    ∙ ap text_of (append_assoc head one (two ++ last))

pub five_pieces : (head one two three last : List Line) (a b c d e : List ℕ) → a ≡ text_of head → b ≡ a ++ text_of one
    → c ≡ b ++ text_of two → d ≡ c ++ text_of three → e ≡ d ++ text_of last
    → e ≡ text_of (head ++ (one ++ (two ++ (three ++ last))))
five_pieces head one two three last a b c d e first second third fourth fifth =
    four_pieces (head ++ one) two three last b c d e (two_pieces head one a b first second) third fourth fifth
    ∙ ap text_of (append_assoc head one (two ++ (three ++ last)))
