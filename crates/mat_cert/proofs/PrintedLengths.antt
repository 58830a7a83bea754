-- How long a text is that is printed. Rung k on at most 500 elements has a line of k numbers of at most 3 bytes and, with a split, two lines
-- of at most 500 weights of at most 45 bytes: at most 46118 + 4 * k bytes in all. With e rungs these are at most 46118 * e + 2 * (e * e).
use Rattle.mat_cert.proofs.Common.{◌≡◌, ℕ, zero, suc, ◌+◌, ◌*◌, ◌^◌, ◌<◌, ◌≤◌, codes, List, [], ◌∷◌, ◌++◌, length, map, ap, subst, ◌∙◌, arith, pos, refl, Some, slice_get, length-digits_of-le, length-append, length-map, slice_get_within, get_or_from_slice_get, All-cons, All-get_or, All-map, All-nil}
use Rattle.mat_cert.proofs.Common.{All-weaker, most_elements, AllBelow, Weight, Line, text_of, numeral, numerals, weight_word, end_line, members_line, weights_line, text_of-append, PlainRung, PricedRung, AreRangedRungs, Certificate, IsPrinted, IsPrintedRung, IsPrintedWeight, IsRanged, IsRangedRung}
use Rattle.mat_cert.proofs.Common.{IsRangedLadder, IsRangedPlainRung, IsRangedPricedRung, is_short_of_tree, certificate_text, intersect, best, last_rung, rung_line, plain_rung_lines, priced_rung_lines, rungs_lines, option_lines}
use Rattle.std.specs.Int.Digits.{digits_of}
use Rattle.std.specs.List.{All, join_with_byte}
use Rattle.std.proofs.Math.Nat.{mul-le-mul, suc-mul, mul-suc}
use Rattle.mat_cert.specs.Certificates as certificates
use Rattle.mat_cert.proofs.LineTexts.{opening}
use Rattle.mat_cert.proofs.Lengths.{IsShortHeader, IsShortHere, length-join_with_byte, length-missing, length-plain, length-printed}
use Rattle.mat_cert.proofs.Lengths.{length-text_of, short_cut, short_end, short_ladder_header, short_missing, short_opening}

-- ---- one line

-- at most b bytes
abbrev pub IsAtMost : ℕ → List ℕ → Type 0
IsAtMost b w = length w ≤ b

-- a keyword and words of at most b bytes
pub line_length : (b : ℕ) (key : List ℕ) (words : Line) → All (IsAtMost b) words
    → length (text_of ((key ∷ words) ∷ [])) ≤ length key + 2 + length words * (b + 1)
line_length b key [] short = omega (arith, length-append key (10 ∷ []))
line_length b key (v ∷ vs) short =
    let rest = length-join_with_byte b (v ∷ vs) short in
    let joined = length-append key (32 ∷ join_with_byte 32 (v ∷ vs)) in
    let ended = length-append (key ++ 32 ∷ join_with_byte 32 (v ∷ vs)) (10 ∷ []) in
    omega arith

-- the first line, and the others
pub text_length : (line : Line) (lines : List Line) → length (text_of (line ∷ lines)) ≡ length (text_of (line ∷ [])) + length (text_of lines)
text_length line lines =
    let one = length-append (join_with_byte 32 line) (10 ∷ []) in
    let all = length-append (join_with_byte 32 line) (10 ∷ text_of lines) in
    omega arith

-- the numeral of a number from 0 on with at most k digits
pub natural_length : (k x : ℕ) → 0 < k → x < 10 ^ k → length (numeral (pos x)) ≤ k
natural_length k zero some small = omega arith
natural_length k (suc x) some small =
    let few : length (digits_of 10 (suc x)) ≤ k = length-digits_of-le 10 k (suc x) (omega arith) small in
    rw length-map few

-- ---- one rung

pub members_short : (n : ℕ) (set : List ℕ) → n ≤ most_elements → AllBelow n set → All (IsAtMost 3) (numerals set)
members_short n [] few below = All-nil (IsAtMost 3)
members_short n (x ∷ xs) few below =
    All-cons (IsAtMost 3) (numeral (pos x)) (numerals xs) (natural_length 3 x (omega arith) (omega (arith, below.0)))
    (members_short n xs few below.1)

weights_short : (weights : List Weight) → All IsPrintedWeight weights → All (IsAtMost 45) (map weight_word weights)
weights_short weights printed =
    All-map (IsAtMost 45) weight_word weights
    (All-weaker IsPrintedWeight (λ w. IsAtMost 45 (weight_word w)) length-printed weights printed)

rung_line-short : (k : ℕ) (weight : Weight) → k ≤ most_elements → IsPrintedWeight weight
    → All (IsAtMost 45) (numeral (pos k) ∷ weight_word weight ∷ [])
rung_line-short k weight few printed =
    let number = natural_length 3 k (omega arith) (omega arith) in
    All-cons (IsAtMost 45) (numeral (pos k)) (weight_word weight ∷ []) (omega arith)
    (All-cons (IsAtMost 45) (weight_word weight) [] (length-printed weight printed) (All-nil (IsAtMost 45)))

-- the two lines that tell the weight and the set of a rung
weighted_set_length : (n k : ℕ) (weight : Weight) (set : List ℕ) → n ≤ most_elements → k ≤ most_elements → IsRangedRung n k weight set
    → IsPrintedWeight weight
    → length (text_of (rung_line k weight ∷ members_line (codes "set") set ∷ [])) ≤ 103 + 4 * k
weighted_set_length n k weight set few small range printed =
    let one = line_length 45 (codes "rung") (numeral (pos k) ∷ weight_word weight ∷ []) (rung_line-short k weight small printed) in
    let two = line_length 3 (codes "set") (numerals set) (members_short n set few range.set_in_range.below) in
    let members : length (numerals set) ≡ k = length-map set (λ x. numeral (pos x)) ∙ range.size in
    omega (arith, text_length (rung_line k weight) (members_line (codes "set") set ∷ []))

-- at most as many bytes as a rung has that is printed
abbrev IsShortRung : {R : Type 0} → (ℕ → R → List Line) → ℕ → R → Type 0
IsShortRung lines_of_rung k rung = length (text_of (lines_of_rung k rung)) ≤ 46118 + 4 * k

plain_rung_length : (n k : ℕ) (rung : PlainRung) → n ≤ most_elements → k ≤ most_elements → IsRangedPlainRung n k rung → IsPrintedWeight rung.weight
    → IsShortRung plain_rung_lines k rung
plain_rung_length n k rung few small range printed =
    let both = weighted_set_length n k rung.weight rung.set few small range printed in
    omega arith

priced_rung_length : (n k : ℕ) (rung : PricedRung) → n ≤ most_elements → k ≤ most_elements → IsRangedPricedRung n k rung → IsPrintedRung rung
    → IsShortRung priced_rung_lines k rung
priced_rung_length n k rung few small range printed =
    let head = rung_line k rung.weight in
    let set = members_line (codes "set") rung.set in
    let first = weights_line (codes "first") rung.first in
    let second = weights_line (codes "second") rung.second in
    let both = weighted_set_length n k rung.weight rung.set few small range.0 printed.weight in
    let three = line_length 45 (codes "first") (map weight_word rung.first) (weights_short rung.first printed.first) in
    let four = line_length 45 (codes "second") (map weight_word rung.second) (weights_short rung.second printed.second) in
    let firsts : length (map weight_word rung.first) ≡ n = length-map rung.first weight_word ∙ range.1.size in
    let seconds : length (map weight_word rung.second) ≡ n = length-map rung.second weight_word ∙ range.2.size in
    let front = text_length head (set ∷ []) in
    omega (arith, text_length head (set ∷ first ∷ second ∷ []), text_length set (first ∷ second ∷ []), text_length first (second ∷ []))

-- ---- all rungs

square_step : (k : ℕ) → suc k * suc k ≡ k * k + 2 * k + 1
square_step k = omega (arith, suc-mul k (suc k), mul-suc k k)

add_rung : (here rest k square next e end : ℕ) → here ≤ 46118 + 4 * k → next ≡ square + 2 * k + 1
    → rest + (46118 * suc k + 2 * next) ≤ 46118 * e + 2 * end → here + rest + (46118 * k + 2 * square) ≤ 46118 * e + 2 * end
add_rung here rest k square next e end a b c = omega arith

rungs_length : {R : Type 0} (lines_of_rung : ℕ → R → List Line) (k e : ℕ) (rungs : List R) → k + length rungs ≡ e
    → ((i : ℕ) (rung : R) → slice_get rungs i ≡ Some rung → IsShortRung lines_of_rung (k + i) rung)
    → length (text_of (rungs_lines lines_of_rung k rungs)) + (46118 * k + 2 * (k * k)) ≤ 46118 * e + 2 * (e * e)
rungs_length lines_of_rung k e [] at short =
    let same : k ≡ e = omega arith in
    subst (λ (i : ℕ). 0 + (46118 * k + 2 * (k * k)) ≤ 46118 * i + 2 * (i * i)) same (omega arith)
rungs_length {R} lines_of_rung k e (rung ∷ rungs) at short =
    let others = rungs_lines lines_of_rung (suc k) rungs in
    let place : k + 0 ≡ k = omega arith in
    let here : IsShortRung lines_of_rung k rung = subst (λ (i : ℕ). IsShortRung lines_of_rung i rung) place (short 0 rung refl) in
    let behind : (i : ℕ) (other : R) → slice_get rungs i ≡ Some other → IsShortRung lines_of_rung (suc k + i) other = λ i other found.
    let same : k + suc i ≡ suc k + i = omega arith in
    subst (λ (j : ℕ). IsShortRung lines_of_rung j other) same (short (suc i) other found) in
    let rest = rungs_length lines_of_rung (suc k) e rungs (omega arith) behind in
    let both : length (text_of (rungs_lines lines_of_rung k (rung ∷ rungs))) ≡ length (text_of (lines_of_rung k rung)) + length (text_of others) =
    ap length (text_of-append (lines_of_rung k rung) others) ∙ length-append (text_of (lines_of_rung k rung)) (text_of others) in
    rw both (add_rung (length (text_of (lines_of_rung k rung))) (length (text_of others)) k (k * k) (suc k * suc k) e (e * e) here
    (square_step k) rest)

-- a ladder of rungs that are printed, with its last lines, which are at most three
ladder_length : {R : Type 0} (lines_of_rung : ℕ → R → List Line) (IsRangedAt : ℕ → R → Type 0) (command : List ℕ) (words : Line) (n : ℕ)
    (rungs : List R) (last : List Line)
    → ((k : ℕ) (rung : R) → slice_get rungs k ≡ Some rung → k ≤ most_elements → IsRangedAt k rung → IsShortRung lines_of_rung k rung)
    → IsShortHeader command words → AreRangedRungs IsRangedAt n rungs → All IsShortHere last → length last ≤ 3
    → length (text_of (opening command words ++ (rungs_lines lines_of_rung 0 rungs ++ last))) < 24000000
ladder_length {R} lines_of_rung IsRangedAt command words n rungs last short_at short range short_last three =
    let start = opening command words in
    let lines = rungs_lines lines_of_rung 0 rungs in
    let few = range.few in
    let most = range.no_more in
    let small : length rungs ≤ 501 = omega arith in
    let first = length-text_of 502 65 start (short_opening command words short) in
    let each : (i : ℕ) (rung : R) → slice_get rungs i ≡ Some rung → IsShortRung lines_of_rung (0 + i) rung = λ i rung at.
    let within : i < length rungs = slice_get_within rungs i rung at in
    let place : i ≡ 0 + i = omega arith in
    subst (λ (j : ℕ). IsShortRung lines_of_rung j rung) place (short_at i rung at (omega arith) (range.each i rung at)) in
    let middle = rungs_length lines_of_rung 0 (length rungs) rungs (omega arith) each in
    let end = length-text_of 502 65 last short_last in
    let ends = mul-le-mul {n₁ = length last} {m₁ = 33133} {n₂ = 3} {m₂ = 33133} three (omega arith) in
    let square = mul-le-mul {n₁ = length rungs} {m₁ = length rungs} {n₂ = 501} {m₂ = 501} small small in
    let whole = ap length (text_of-append start (lines ++ last)) ∙ length-append (text_of start) (text_of (lines ++ last)) in
    let back = ap length (text_of-append lines last) ∙ length-append (text_of lines) (text_of last) in
    omega arith

-- an element of a list has what all have
of_all : {R : Type 0} (P : R → Type 0) (xs : List R) (i : ℕ) (x : R) → slice_get xs i ≡ Some x → All P xs → P x
of_all P xs i x at all =
    subst P (get_or_from_slice_get xs i x x at) (All-get_or P xs i x (slice_get_within xs i x at) all)

-- a ladder of rungs with splits
priced_length : (command : List ℕ) (numbers : List ℕ) (n : ℕ) (rungs : List PricedRung) (cut : List ℕ) (last : List Line)
    → length command ≤ 65 → length numbers ≤ 2 → AllBelow 502 numbers → IsRangedLadder n rungs cut → All IsPrintedRung rungs
    → All IsShortHere last → length last ≤ 2
    → length (text_of (opening command (numerals (n ∷ last_rung rungs ∷ numbers))
    ++ (rungs_lines priced_rung_lines 0 rungs ++ members_line (codes "cut") cut ∷ last))) < 24000000
priced_length command numbers n rungs cut last short some small range printed short_last two =
    let few = range.0.few in
    ladder_length priced_rung_lines (IsRangedPricedRung n) command (numerals (n ∷ last_rung rungs ∷ numbers)) n rungs
    (members_line (codes "cut") cut ∷ last)
    (λ k rung at small ranged. priced_rung_length n k rung few small ranged (of_all IsPrintedRung rungs k rung at printed))
    (short_ladder_header (IsRangedPricedRung n) command n rungs numbers short range.0 some small) range.0
    (short_cut n cut last few range.1 short_last) (omega arith)

-- a certificate in range whose weights may be printed has less than 24,000,000 bytes
pub length-printed_text : (c : Certificate) → IsRanged c → IsPrinted c → length (certificate_text c) < 24000000
unfolding certificate_text
length-printed_text (intersect n rungs cut) range printed =
    priced_length (codes "intersect") [] n rungs cut (end_line ∷ []) (omega arith) (omega arith) tt range printed short_end (omega arith)
length-printed_text (best n rungs) range printed =
    let few = range.few in
    ladder_length plain_rung_lines (IsRangedPlainRung n) (codes "best") (numerals (n ∷ last_rung rungs ∷ [])) n rungs (end_line ∷ [])
    (λ k rung at small ranged. plain_rung_length n k rung few small ranged
    (of_all (λ (r : PlainRung). IsPrintedWeight r.weight) rungs k rung at printed))
    (short_ladder_header (IsRangedPlainRung n) (codes "best") n rungs [] (omega arith) range (omega arith) tt) range short_end (omega arith)
length-printed_text (certificates.rainbow n v c rungs cut missing) range printed =
    let v_few = range.vertices_in_range.few in
    let c_few = range.few_colours in
    priced_length (codes "rainbow") (v ∷ c ∷ []) n rungs cut (option_lines (codes "colours") missing ++ end_line ∷ []) (omega arith) (omega arith)
    (omega arith, (omega arith, tt)) range.ladder_in_range printed
    (short_missing c (is_short_of_tree (last_rung rungs) v) missing c_few range.missing_in_range) (length-missing missing)
length-printed_text (certificates.assign n r c rungs cut) range printed =
    let r_few = range.few_rows in
    let c_few = range.few_columns in
    priced_length (codes "assign") (r ∷ c ∷ []) n rungs cut (end_line ∷ []) (omega arith) (omega arith) (omega arith, (omega arith, tt))
    range.ladder_in_range printed short_end (omega arith)
length-printed_text (certificates.union_of n weight parts levels) range printed =
    length-plain (certificates.union_of n weight parts levels) tt range
length-printed_text (certificates.pack_any n) range printed = length-plain (certificates.pack_any n) tt range
length-printed_text (certificates.pack n bases cut) range printed = length-plain (certificates.pack n bases cut) tt range
length-printed_text (certificates.cover_never n x) range printed = length-plain (certificates.cover_never n x) tt range
length-printed_text (certificates.cover n sets cut) range printed = length-plain (certificates.cover n sets cut) tt range
length-printed_text (certificates.trees n sets) range printed = length-plain (certificates.trees n sets) tt range
length-printed_text (certificates.trees_none n k v classes) range printed = length-plain (certificates.trees_none n k v classes) tt range
length-printed_text (certificates.arbor n cost arcs first second) range printed =
    length-plain (certificates.arbor n cost arcs first second) tt range
length-printed_text (certificates.unreached n v set) range printed = length-plain (certificates.unreached n v set) tt range
length-printed_text (certificates.disjoint n sets) range printed = length-plain (certificates.disjoint n sets) tt range
length-printed_text (certificates.disjoint_none n k v set) range printed = length-plain (certificates.disjoint_none n k v set) tt range
