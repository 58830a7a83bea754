-- How long texts are. A numeral of at most k digits has at most k + 1 bytes, a line of at most m words of at most b bytes at most
-- m * (b + 1) + 1 with its byte 10, and a certificate in range at most 2009 lines of at most 502 words of at most 65 bytes.
use Rattle.mat_cert.proofs.Common.{◌≡◌, ℕ, zero, suc, Bool, true, false, cond, ◌+◌, ◌*◌, ◌^◌, ◌<◌, ◌≤◌, codes, List, [], ◌∷◌, ◌++◌, length, map, arith, refl, None, Some, slice_get, ℤ, pos, negsuc, neg_ℤ, ◌<ℤ◌, Option, nat_lt, ints, length-digits_of-le, length-append, length-map, slice_get_within}
use Rattle.mat_cert.proofs.Common.{All-append, All-cons, All-head, All-map, All-nil, All-tail, All-weaker, largest_number, most_elements, AllBelow, IsSet, Weight, Line, text_of, numeral, numerals, weight_word, end_line, members_line, weights_line, LevelLine, PlainRung, PricedRung, certificate_limit}
use Rattle.mat_cert.proofs.Common.{AreRangedRungs, AreRangedTrees, Certificate, IsCertificateWeight, IsPrintedWeight, IsRanged, IsRangedLadder, IsRangedLevel, IsRangedOption, IsRangedPart, IsRangedPlainRung, IsRangedPricedRung, is_short_of_tree, certificate_text, intersect, best, version_line}
use Rattle.mat_cert.proofs.Common.{header_line, last_rung, rung_line, plain_rung_lines, priced_rung_lines, rungs_lines, level_line, sets_lines, option_lines}
use Rattle.std.specs.Ordering.{int_eq}
use Rattle.std.specs.Int.Digits.{digits_of}
use Rattle.std.specs.List.{All, join_with_byte}
use Rattle.std.proofs.Math.Nat.{mul-le-mul, suc-mul}
use Rattle.mat_sets.specs.Sums.{IsWithin}
use Rattle.mat_sets.proofs.Ground.{length-complement}
use Rattle.mat_cert.specs.Certificates as certificates
use Rattle.mat_cert.proofs.LineTexts.{opening}

-- a numeral of at most k digits has at most k + 1 bytes
pub length-numeral : (k : ℕ) (z : ℤ) → 0 < k → neg_ℤ (pos (10 ^ k)) <ℤ z → z <ℤ pos (10 ^ k) → length (numeral z) ≤ k + 1
length-numeral k (pos zero) some low high = omega arith
length-numeral k (pos (suc n)) some low high =
    let few : length (digits_of 10 (suc n)) ≤ k = length-digits_of-le 10 k (suc n) (omega arith) (omega (arith, ints)) in
    rw length-map (omega arith)
length-numeral k (negsuc n) some low high =
    let few : length (digits_of 10 (suc n)) ≤ k = length-digits_of-le 10 k (suc n) (omega arith) (omega (arith, ints)) in
    rw length-map (omega arith)

-- at most m words, each of at most b bytes
pub record IsShortLine (m b : ℕ) (words : List (List ℕ)) : Type 0 where
  pub few : length words ≤ m
  pub short : All (λ w. length w ≤ b) words

-- each word and the byte behind it
pub length-join_with_byte : (b : ℕ) (words : List (List ℕ)) → All (λ w. length w ≤ b) words
    → length (join_with_byte 32 words) ≤ length words * (b + 1)
length-join_with_byte b [] short = omega arith
length-join_with_byte b (w ∷ []) short =
    let here : length w ≤ b = All-head (λ (v : List ℕ). length v ≤ b) w [] short in
    omega arith
length-join_with_byte b (w ∷ v ∷ vs) short =
    let here : length w ≤ b = All-head (λ (v : List ℕ). length v ≤ b) w (v ∷ vs) short in
    let rest = length-join_with_byte b (v ∷ vs) (All-tail (λ (v : List ℕ). length v ≤ b) w (v ∷ vs) short) in
    let step = suc-mul (suc (length vs)) (b + 1) in
    omega (arith, length-append w (32 ∷ join_with_byte 32 (v ∷ vs)))

-- the text of lines, each of at most m words of at most b bytes
pub length-text_of : (m b : ℕ) (lines : List (List (List ℕ))) → All (IsShortLine m b) lines
    → length (text_of lines) ≤ length lines * (m * (b + 1) + 1)
length-text_of m b [] short = omega arith
length-text_of m b (words ∷ lines) short =
    let here = All-head (IsShortLine m b) words lines short in
    let joined = length-join_with_byte b words here.short in
    let most = mul-le-mul {n₁ = length words} {m₁ = b + 1} {n₂ = m} {m₂ = b + 1} here.few (omega arith) in
    let rest = length-text_of m b lines (All-tail (IsShortLine m b) words lines short) in
    let step = suc-mul (length lines) (m * (b + 1) + 1) in
    omega (arith, length-append (join_with_byte 32 words) (10 ∷ text_of lines))

-- the most words of a line of a certificate in range, a key and a header's numbers or a set's members among them; no word is larger than 501
abbrev pub most_words : ℕ
most_words = 502

-- the most bytes of a word, which a weight of two numbers of 31 digits takes with its signs and its colon
abbrev pub longest_word : ℕ
longest_word = 65

-- the most lines of a certificate in range
abbrev pub most_lines : ℕ
most_lines = 2009

-- at most so many bytes
abbrev pub IsShort : List ℕ → Type 0
IsShort w = length w ≤ longest_word

-- at most so many words of at most so many bytes
abbrev pub IsShortHere : List (List ℕ) → Type 0
IsShortHere words = IsShortLine most_words longest_word words

-- the word of a weight whose numbers have numerals of at most b bytes
length-weight_word : (b : ℕ) (w : Weight) → length (numeral w.main) ≤ b → length (numeral w.tie) ≤ b
    → length (weight_word w) ≤ b + 1 + b
length-weight_word b w main tie = by (int_eq w.tie (pos 0))
  where
    by : (c : Bool) → length (cond c (numeral w.main) (numeral w.main ++ 58 ∷ numeral w.tie)) ≤ b + 1 + b
    by true = omega (arith, main)
    by false = omega (arith, main, tie, length-append (numeral w.main) (58 ∷ numeral w.tie))

-- a number of at most m has a numeral of at most k + 1 bytes, where m has at most k digits
length-within : (k m : ℕ) (z : ℤ) → 0 < k → m < 10 ^ k → IsWithin m z → length (numeral z) ≤ k + 1
length-within k m z some small range = length-numeral k z some (omega (arith, ints)) (omega (arith, ints))

-- the word of a weight that is printed
pub length-printed : (w : Weight) → IsPrintedWeight w → length (weight_word w) ≤ 45
length-printed w range =
    length-weight_word 22 w (length-within 21 (3 * 10 ^ 20) w.main (omega arith) (omega arith) range.0)
    (length-within 21 (3 * 10 ^ 20) w.tie (omega arith) (omega arith) range.1)

length-weight : (w : Weight) → IsCertificateWeight w → IsShort (weight_word w)
length-weight w range =
    length-weight_word 32 w (length-within 31 largest_number w.main (omega arith) (omega arith) range.0)
    (length-within 31 largest_number w.tie (omega arith) (omega arith) range.1)

length-small : (x : ℕ) → x ≤ 501 → IsShort (numeral (pos x))
length-small x small =
    let few = length-numeral 39 (pos x) (omega arith) (omega (arith, ints)) (omega (arith, ints)) in
    omega arith

-- the numerals of such numbers
pub short_numerals : (n : ℕ) (xs : List ℕ) → n ≤ most_words → AllBelow n xs → All IsShort (numerals xs)
short_numerals n [] few below = All-nil IsShort
short_numerals n (x ∷ xs) few below =
    All-cons IsShort (numeral (pos x)) (numerals xs) (length-small x (omega (arith, below.0))) (short_numerals n xs few below.1)

pub short_set_line : (n : ℕ) (keyword set : List ℕ) → n ≤ most_elements → IsShort keyword → IsSet n set → IsShortHere (members_line keyword set)
short_set_line n keyword set few short is_set = record {
  few =
      let size = length-complement n set is_set.rising is_set.below in
      omega (arith, length-map set (λ x. numeral (pos x)));
  short = All-cons IsShort keyword (numerals set) short (short_numerals n set (omega arith) is_set.below);
}

short_weights_line : (keyword : List ℕ) (weights : List Weight) → IsShort keyword → length weights ≤ most_elements → All IsCertificateWeight weights
    → IsShortHere (weights_line keyword weights)
short_weights_line keyword weights short few range = record {
  few = omega (arith, length-map weights weight_word);
  short =
      All-cons IsShort keyword (map weight_word weights) short
      (All-map IsShort weight_word weights (All-weaker IsCertificateWeight (λ w. IsShort (weight_word w)) length-weight weights range));
}

short_rung_line : (k : ℕ) (weight : Weight) → k ≤ 501 → IsCertificateWeight weight → IsShortHere (rung_line k weight)
short_rung_line k weight few range = record {
  few = omega arith;
  short =
      All-cons IsShort (codes "rung") (numeral (pos k) ∷ weight_word weight ∷ []) (omega arith)
      (All-cons IsShort (numeral (pos k)) (weight_word weight ∷ []) (length-small k few)
      (All-cons IsShort (weight_word weight) [] (length-weight weight range) (All-nil IsShort)));
}

short_plain_rung : (n k : ℕ) (rung : PlainRung) → n ≤ most_elements → k ≤ 501 → IsRangedPlainRung n k rung
    → All IsShortHere (plain_rung_lines k rung)
short_plain_rung n k rung few small range =
    let set = members_line (codes "set") rung.set in
    All-cons IsShortHere (rung_line k rung.weight) (set ∷ []) (short_rung_line k rung.weight small range.weight_in_range)
    (All-cons IsShortHere set [] (short_set_line n (codes "set") rung.set few (omega arith) range.set_in_range) (All-nil IsShortHere))

short_part : (n : ℕ) (keyword : List ℕ) (part : List Weight) → IsShort keyword → n ≤ most_elements → IsRangedPart n part
    → IsShortHere (weights_line keyword part)
short_part n keyword part short few range = short_weights_line keyword part short (omega (arith, range.size)) range.weights

short_priced_rung : (n k : ℕ) (rung : PricedRung) → n ≤ most_elements → k ≤ 501 → IsRangedPricedRung n k rung
    → All IsShortHere (priced_rung_lines k rung)
short_priced_rung n k rung few small range =
    let set = members_line (codes "set") rung.set in
    let first = weights_line (codes "first") rung.first in
    let second = weights_line (codes "second") rung.second in
    All-cons IsShortHere (rung_line k rung.weight) (set ∷ first ∷ second ∷ []) (short_rung_line k rung.weight small range.0.weight_in_range)
    (All-cons IsShortHere set (first ∷ second ∷ []) (short_set_line n (codes "set") rung.set few (omega arith) range.0.set_in_range)
    (All-cons IsShortHere first (second ∷ []) (short_part n (codes "first") rung.first (omega arith) few range.1)
    (All-cons IsShortHere second [] (short_part n (codes "second") rung.second (omega arith) few range.2) (All-nil IsShortHere))))

-- the lines of rungs are short where those of each rung are
short_rungs : {R : Type 0} (lines_of_rung : ℕ → R → List (List (List ℕ))) (k : ℕ) (rungs : List R)
    → ((i : ℕ) (rung : R) → slice_get rungs i ≡ Some rung → All IsShortHere (lines_of_rung (k + i) rung))
    → All IsShortHere (rungs_lines lines_of_rung k rungs)
short_rungs lines_of_rung k [] each = All-nil IsShortHere
short_rungs lines_of_rung k (rung ∷ rungs) each =
    let first : k + 0 ≡ k = omega arith in
    All-append IsShortHere (lines_of_rung k rung) (rungs_lines lines_of_rung (suc k) rungs) (rw first at (each 0 rung refl))
    (short_rungs lines_of_rung (suc k) rungs (λ i other at. let same : suc k + i ≡ k + suc i = omega arith in rw same (each (suc i) other at)))

-- each of the rungs has at most four lines
length-rungs_lines : {R : Type 0} (lines_of_rung : ℕ → R → List (List (List ℕ))) (k : ℕ) (rungs : List R)
    → ((i : ℕ) (rung : R) → length (lines_of_rung i rung) ≤ 4) → length (rungs_lines lines_of_rung k rungs) ≤ 4 * length rungs
length-rungs_lines lines_of_rung k [] each = omega arith
length-rungs_lines lines_of_rung k (rung ∷ rungs) each =
    let here = each k rung in
    let rest = length-rungs_lines lines_of_rung (suc k) rungs each in
    omega (arith, length-append (lines_of_rung k rung) (rungs_lines lines_of_rung (suc k) rungs))

-- the words of a header, behind its command
pub record IsShortHeader (command : List ℕ) (words : Line) : Type 0 where
  pub short_command : IsShort command
  pub few : length words ≤ 5
  pub short_words : All IsShort words

-- a header of numbers
pub short_numbers : (command : List ℕ) (numbers : List ℕ) → IsShort command → length numbers ≤ 5 → AllBelow most_words numbers
    → IsShortHeader command (numerals numbers)
short_numbers command numbers short few below = record {
  short_command = short;
  few = omega (arith, length-map numbers (λ x. numeral (pos x)));
  short_words = short_numerals most_words numbers (omega arith) below;
}

pub short_opening : (command : List ℕ) (words : Line) → IsShortHeader command words → All IsShortHere (opening command words)
short_opening command words short =
    let header = header_line command words in
    let few = short.few in
    All-cons IsShortHere version_line (header ∷ [])
    (record {
      few = omega arith;
      short = All-cons IsShort (codes "certificate") (codes "1" ∷ []) (omega arith)
          (All-cons IsShort (codes "1") [] (omega arith) (All-nil IsShort));
    })
    (All-cons IsShortHere header []
    (record {
      few = omega arith;
      short = All-cons IsShort (codes "answer") (command ∷ words) (omega arith) (All-cons IsShort command words short.short_command short.short_words);
    })
    (All-nil IsShortHere))

pub short_end : All IsShortHere (end_line ∷ [])
short_end =
    All-cons IsShortHere end_line []
    (record { few = omega arith; short = All-cons IsShort (codes "end") [] (omega arith) (All-nil IsShort) })
    (All-nil IsShortHere)

-- ---- the lines below a header

-- a set, and the lines behind it
short_set_and : (n : ℕ) (keyword set : List ℕ) (last : List Line) → n ≤ most_elements → IsShort keyword → IsSet n set → All IsShortHere last
    → All IsShortHere (members_line keyword set ∷ last)
short_set_and n keyword set last few short is_set behind =
    All-cons IsShortHere (members_line keyword set) last (short_set_line n keyword set few short is_set) behind

-- a part of a split, and the lines behind it
short_part_and : (n : ℕ) (keyword : List ℕ) (part : List Weight) (last : List Line) → n ≤ most_elements → IsShort keyword → IsRangedPart n part
    → All IsShortHere last → All IsShortHere (weights_line keyword part ∷ last)
short_part_and n keyword part last few short range behind =
    All-cons IsShortHere (weights_line keyword part) last (short_part n keyword part short few range) behind

short_sets : (n : ℕ) (keyword : List ℕ) (sets : List (List ℕ)) → n ≤ most_elements → IsShort keyword → All (IsSet n) sets
    → All IsShortHere (sets_lines keyword sets)
short_sets n keyword sets few short each =
    All-map IsShortHere (members_line keyword) sets
    (All-weaker (IsSet n) (λ set. IsShortHere (members_line keyword set)) (λ set is_set. short_set_line n keyword set few short is_set) sets each)

short_option : (n : ℕ) (keyword : List ℕ) (needed : Bool) (option : Option (List ℕ)) → n ≤ most_elements → IsShort keyword
    → IsRangedOption n needed option → All IsShortHere (option_lines keyword option)
short_option n keyword needed None few short range = All-nil IsShortHere
short_option n keyword needed (Some set) few short range = short_set_and n keyword set [] few short range.1 (All-nil IsShortHere)

length-option : (keyword : List ℕ) (option : Option (List ℕ)) → length (option_lines keyword option) ≤ 1
length-option keyword None = omega arith
length-option keyword (Some set) = omega arith

short_level : (n : ℕ) (level : LevelLine) → n ≤ most_elements → IsRangedLevel n level → IsShortHere (level_line level)
short_level n level few range = record {
  few =
      let size = length-complement n level.cut range.set_in_range.rising range.set_in_range.below in
      omega (arith, length-map level.cut (λ x. numeral (pos x)));
  short =
      All-cons IsShort (codes "level") (weight_word level.at ∷ numerals level.cut) (omega arith)
      (All-cons IsShort (weight_word level.at) (numerals level.cut) (length-weight level.at range.weight_in_range)
      (short_numerals n level.cut (omega arith) range.set_in_range.below));
}

short_levels : (n : ℕ) (levels : List LevelLine) → n ≤ most_elements → All (IsRangedLevel n) levels → All IsShortHere (map level_line levels)
short_levels n levels few each =
    All-map IsShortHere level_line levels
    (All-weaker (IsRangedLevel n) (λ level. IsShortHere (level_line level)) (λ level range. short_level n level few range) levels each)

-- ---- ladders

-- the last lines of a ladder on n elements, behind the cut
pub short_cut : (n : ℕ) (cut : List ℕ) (last : List Line) → n ≤ most_elements → IsSet n cut → All IsShortHere last
    → All IsShortHere (members_line (codes "cut") cut ∷ last)
short_cut n cut last few is_set behind = short_set_and n (codes "cut") cut last few (omega arith) is_set behind

-- the header of a ladder, with numbers behind that of its last rung
pub short_ladder_header : {R : Type 0} (IsRangedAt : ℕ → R → Type 0) (command : List ℕ) (n : ℕ) (rungs : List R) (numbers : List ℕ)
    → IsShort command → AreRangedRungs IsRangedAt n rungs → length numbers ≤ 2 → AllBelow most_words numbers
    → IsShortHeader command (numerals (n ∷ last_rung rungs ∷ numbers))
short_ladder_header IsRangedAt command n rungs numbers short range few small =
    let most = range.no_more in
    let less = range.few in
    short_numbers command (n ∷ last_rung rungs ∷ numbers) short (omega arith) (omega arith, (omega arith, small))

-- the lines behind the cut of a ladder of forests, and their number
pub short_missing : (n : ℕ) (needed : Bool) (missing : Option (List ℕ)) → n ≤ most_elements → IsRangedOption n needed missing
    → All IsShortHere (option_lines (codes "colours") missing ++ end_line ∷ [])
short_missing n needed missing few range =
    All-append IsShortHere (option_lines (codes "colours") missing) (end_line ∷ [])
    (short_option n (codes "colours") needed missing few (omega arith) range) short_end

pub length-missing : (missing : Option (List ℕ)) → length (option_lines (codes "colours") missing ++ end_line ∷ []) ≤ 2
length-missing missing =
    omega (arith, length-option (codes "colours") missing, length-append (option_lines (codes "colours") missing) (end_line ∷ []))

-- a ladder with its last lines, which are at most three, has at most 2^26 bytes
length-ladder : {R : Type 0} (lines_of_rung : ℕ → R → List Line) (IsRangedAt : ℕ → R → Type 0) (command : List ℕ) (words : Line)
    (n : ℕ) (rungs : List R) (last : List Line)
    → ((i : ℕ) (rung : R) → length (lines_of_rung i rung) ≤ 4)
    → ((k : ℕ) (rung : R) → k ≤ 501 → IsRangedAt k rung → All IsShortHere (lines_of_rung k rung))
    → IsShortHeader command words → AreRangedRungs IsRangedAt n rungs → All IsShortHere last → length last ≤ 3
    → length (text_of (opening command words ++ (rungs_lines lines_of_rung 0 rungs ++ last))) ≤ 67108864
length-ladder {R} lines_of_rung IsRangedAt command words n rungs last four short_at short range short_last three =
    let start = opening command words in
    let lines = rungs_lines lines_of_rung 0 rungs in
    let few = range.few in
    let most = range.no_more in
    let short_lines = short_rungs lines_of_rung 0 rungs (λ i rung at.
    let within : i < length rungs = slice_get_within rungs i rung at in
    let same : 0 + i ≡ i = omega arith in
    rw same (short_at i rung (omega arith) (range.each i rung at))) in
    let all = All-append IsShortHere start (lines ++ last) (short_opening command words short)
    (All-append IsShortHere lines last short_lines short_last) in
    let whole = length-text_of most_words longest_word (start ++ (lines ++ last)) all in
    let count : length (start ++ (lines ++ last)) ≤ most_lines =
    omega (arith, length-append start (lines ++ last), length-append lines last, length-rungs_lines lines_of_rung 0 rungs four) in
    omega arith

-- a ladder of rungs with splits
length-priced : (command : List ℕ) (numbers : List ℕ) (n : ℕ) (rungs : List PricedRung) (cut : List ℕ) (last : List Line) → IsShort command
    → length numbers ≤ 2 → AllBelow most_words numbers → IsRangedLadder n rungs cut → All IsShortHere last → length last ≤ 2
    → length (text_of (opening command (numerals (n ∷ last_rung rungs ∷ numbers))
    ++ (rungs_lines priced_rung_lines 0 rungs ++ members_line (codes "cut") cut ∷ last))) ≤ 67108864
length-priced command numbers n rungs cut last short some small range short_last two =
    let few = range.0.few in
    length-ladder priced_rung_lines (IsRangedPricedRung n) command (numerals (n ∷ last_rung rungs ∷ numbers)) n rungs
    (members_line (codes "cut") cut ∷ last) (λ i rung. omega arith) (λ k rung small ranged. short_priced_rung n k rung few small ranged)
    (short_ladder_header (IsRangedPricedRung n) command n rungs numbers short range.0 some small) range.0
    (short_cut n cut last few range.1 short_last) (omega arith)

-- ---- the other certificates

-- short lines of which there are few
length-few : (command : List ℕ) (words : Line) (lines : List Line) → IsShortHeader command words → All IsShortHere lines → length lines ≤ 598
    → length (text_of (opening command words ++ lines)) < 24000000
length-few command words lines short all few =
    let whole = length-text_of most_words longest_word (opening command words ++ lines)
    (All-append IsShortHere (opening command words) lines (short_opening command words short) all) in
    let most = mul-le-mul {n₁ = length (opening command words ++ lines)} {m₁ = 33133} {n₂ = 600} {m₂ = 33133} (omega arith) (omega arith) in
    omega arith

-- a header of numbers, sets, and at most two lines
length-sets : (command : List ℕ) (words : Line) (n : ℕ) (keyword : List ℕ) (sets : List (List ℕ)) (last : List Line)
    → IsShortHeader command words → n ≤ most_elements → IsShort keyword → All (IsSet n) sets → length sets ≤ most_elements → All IsShortHere last
    → length last ≤ 2
    → length (text_of (opening command words ++ (sets_lines keyword sets ++ last))) < 24000000
length-sets command words n keyword sets last header few short each small behind two =
    length-few command words (sets_lines keyword sets ++ last) header
    (All-append IsShortHere (sets_lines keyword sets) last (short_sets n keyword sets few short each) behind)
    (omega (arith, length-append (sets_lines keyword sets) last, length-map sets (members_line keyword)))

-- trees, or arborescences
length-trees : (command : List ℕ) (n : ℕ) (sets : List (List ℕ)) → IsShort command → AreRangedTrees n sets
    → length (text_of (opening command (numerals (n ∷ length sets ∷ [])) ++ (sets_lines (codes "tree") sets ++ end_line ∷ []))) < 24000000
length-trees command n sets short range =
    let few = range.few in
    let many = range.sets_in_range.no_more in
    length-sets command (numerals (n ∷ length sets ∷ [])) n (codes "tree") sets (end_line ∷ [])
    (short_numbers command (n ∷ length sets ∷ []) short (omega arith) (omega arith, (omega arith, tt))) few (omega arith)
    range.sets_in_range.each (omega arith) short_end (omega arith)

-- a header of numbers, and of words behind them
short_header_and : (command : List ℕ) (numbers : List ℕ) (back : Line) → IsShort command → AllBelow most_words numbers → All IsShort back
    → length numbers + length back ≤ 5 → IsShortHeader command (numerals numbers ++ back)
short_header_and command numbers back short small behind few = record {
  short_command = short;
  few = omega (arith, length-append (numerals numbers) back, length-map numbers (λ x. numeral (pos x)));
  short_words = All-append IsShort (numerals numbers) back (short_numerals most_words numbers (omega arith) small) behind;
}

one_short : (word : List ℕ) → IsShort word → All IsShort (word ∷ [])
one_short word short = All-cons IsShort word [] short (All-nil IsShort)

-- a word and then numbers
word_and : (word : List ℕ) (numbers : List ℕ) → IsShort word → AllBelow most_words numbers → All IsShort (word ∷ numerals numbers)
word_and word numbers short small = All-cons IsShort word (numerals numbers) short (short_numerals most_words numbers (omega arith) small)

-- no ladder
abbrev IsPlain : Certificate → Type 0
IsPlain (intersect n rungs cut) = ⊥
IsPlain (best n rungs) = ⊥
IsPlain (certificates.rainbow n v c rungs cut missing) = ⊥
IsPlain (certificates.assign n r c rungs cut) = ⊥
IsPlain certificate = Unit {0}

-- a certificate in range that is no ladder is shorter than those that are printed may be
pub length-plain : (c : Certificate) → IsPlain c → IsRanged c → length (certificate_text c) < 24000000
unfolding certificate_text
length-plain (certificates.union_of n weight parts levels) plain range =
    let few = range.few in
    let parts_few = range.parts_in_range.no_more in
    let levels_few = range.few_levels in
    let numbers = n ∷ length parts ∷ length levels ∷ [] in
    let header = short_header_and (codes "union") numbers (weight_word weight ∷ []) (omega arith)
    (omega arith, (omega arith, (omega arith, tt))) (one_short (weight_word weight) (length-weight weight range.weight_in_range)) (omega arith) in
    let last = map level_line levels ++ end_line ∷ [] in
    length-few (codes "union") (numerals numbers ++ weight_word weight ∷ []) (sets_lines (codes "part") parts ++ last) header
    (All-append IsShortHere (sets_lines (codes "part") parts) last
    (short_sets n (codes "part") parts few (omega arith) range.parts_in_range.each)
    (All-append IsShortHere (map level_line levels) (end_line ∷ []) (short_levels n levels few range.levels_in_range) short_end))
    (omega (
      arith,
      length-append (sets_lines (codes "part") parts) last,
      length-append (map level_line levels) (end_line ∷ []),
      length-map parts (members_line (codes "part")),
      length-map levels level_line,
    ))
length-plain (certificates.pack_any n) plain range =
    let few : n ≤ most_elements = range in
    length-few (codes "pack") (numerals (n ∷ []) ++ codes "any" ∷ []) (end_line ∷ [])
    (short_header_and (codes "pack") (n ∷ []) (codes "any" ∷ []) (omega arith) (omega arith, tt) (one_short (codes "any") (omega arith))
    (omega arith)) short_end (omega arith)
length-plain (certificates.pack n bases cut) plain range =
    let few = range.few in
    let many = range.bases_in_range.no_more in
    length-sets (codes "pack") (numerals (n ∷ length bases ∷ [])) n (codes "base") bases (members_line (codes "cut") cut ∷ end_line ∷ [])
    (short_numbers (codes "pack") (n ∷ length bases ∷ []) (omega arith) (omega arith) (omega arith, (omega arith, tt))) few (omega arith)
    range.bases_in_range.each (omega arith) (short_cut n cut (end_line ∷ []) few range.cut_in_range short_end) (omega arith)
length-plain (certificates.cover_never n x) plain range =
    let few : n ≤ most_elements = range.0 in
    let below : x < n = range.1 in
    length-few (codes "cover") (numerals (n ∷ []) ++ codes "never" ∷ numerals (x ∷ [])) (end_line ∷ [])
    (short_header_and (codes "cover") (n ∷ []) (codes "never" ∷ numerals (x ∷ [])) (omega arith) (omega arith, tt)
    (word_and (codes "never") (x ∷ []) (omega arith) (omega arith, tt)) (omega arith)) short_end (omega arith)
length-plain (certificates.cover n sets cut) plain range =
    let few = range.few in
    let many = range.sets_in_range.no_more in
    length-sets (codes "cover") (numerals (n ∷ length sets ∷ [])) n (codes "part") sets (option_lines (codes "cut") cut ++ end_line ∷ [])
    (short_numbers (codes "cover") (n ∷ length sets ∷ []) (omega arith) (omega arith) (omega arith, (omega arith, tt))) few (omega arith)
    range.sets_in_range.each (omega arith)
    (All-append IsShortHere (option_lines (codes "cut") cut) (end_line ∷ [])
    (short_option n (codes "cut") (nat_lt 0 (length sets)) cut few (omega arith) range.cut_in_range) short_end)
    (omega (arith, length-option (codes "cut") cut, length-append (option_lines (codes "cut") cut) (end_line ∷ [])))
length-plain (certificates.trees n sets) plain range = length-trees (codes "trees") n sets (omega arith) range
length-plain (certificates.trees_none n k v classes) plain range =
    let few = range.0.few in
    let trees_few = range.0.few_trees in
    let v_few = range.0.vertices_in_range.few in
    let many = range.1.no_more in
    let back = v ∷ length classes ∷ [] in
    length-sets (codes "trees") (numerals (n ∷ k ∷ []) ++ codes "none" ∷ numerals back) v (codes "class") classes (end_line ∷ [])
    (short_header_and (codes "trees") (n ∷ k ∷ []) (codes "none" ∷ numerals back) (omega arith) (omega arith, (omega arith, tt))
    (word_and (codes "none") back (omega arith) (omega arith, (omega arith, tt))) (omega arith)) v_few (omega arith)
    range.1.each (omega arith) short_end (omega arith)
length-plain (certificates.arbor n cost arcs first second) plain range =
    let few = range.few in
    let last = weights_line (codes "second") second ∷ end_line ∷ [] in
    length-few (codes "arborescence") (numerals (n ∷ []) ++ codes "tree" ∷ weight_word cost ∷ [])
    (members_line (codes "set") arcs ∷ weights_line (codes "first") first ∷ last)
    (short_header_and (codes "arborescence") (n ∷ []) (codes "tree" ∷ weight_word cost ∷ []) (omega arith) (omega arith, tt)
    (All-cons IsShort (codes "tree") (weight_word cost ∷ []) (omega arith)
    (one_short (weight_word cost) (length-weight cost range.cost_in_range))) (omega arith))
    (short_set_and n (codes "set") arcs (weights_line (codes "first") first ∷ last) few (omega arith) range.arcs_in_range
    (short_part_and n (codes "first") first last few (omega arith) range.first_in_range
    (short_part_and n (codes "second") second (end_line ∷ []) few (omega arith) range.second_in_range short_end))) (omega arith)
length-plain (certificates.unreached n v set) plain range =
    let few = range.few in
    let v_few = range.vertices_in_range.few in
    length-few (codes "arborescence") (numerals (n ∷ []) ++ codes "unreached" ∷ numerals (v ∷ []))
    (members_line (codes "vertices") set ∷ end_line ∷ [])
    (short_header_and (codes "arborescence") (n ∷ []) (codes "unreached" ∷ numerals (v ∷ [])) (omega arith) (omega arith, tt)
    (word_and (codes "unreached") (v ∷ []) (omega arith) (omega arith, tt)) (omega arith))
    (short_set_and v (codes "vertices") set (end_line ∷ []) v_few (omega arith) range.set_in_range short_end) (omega arith)
length-plain (certificates.disjoint n sets) plain range = length-trees (codes "disjoint") n sets (omega arith) range
length-plain (certificates.disjoint_none n k v set) plain range =
    let few = range.0.few in
    let trees_few = range.0.few_trees in
    let v_few = range.0.vertices_in_range.few in
    length-few (codes "disjoint") (numerals (n ∷ k ∷ []) ++ codes "none" ∷ numerals (v ∷ []))
    (members_line (codes "vertices") set ∷ end_line ∷ [])
    (short_header_and (codes "disjoint") (n ∷ k ∷ []) (codes "none" ∷ numerals (v ∷ [])) (omega arith) (omega arith, (omega arith, tt))
    (word_and (codes "none") (v ∷ []) (omega arith) (omega arith, tt)) (omega arith))
    (short_set_and v (codes "vertices") set (end_line ∷ []) v_few (omega arith) range.1 short_end) (omega arith)
length-plain _ plain range = absurd plain

-- ---- all certificates

-- a certificate in range has at most 2^26 bytes
pub length-certificate_text : (c : Certificate) → IsRanged c → length (certificate_text c) ≤ certificate_limit
unfolding certificate_text
length-certificate_text (intersect n rungs cut) range =
    length-priced (codes "intersect") [] n rungs cut (end_line ∷ []) (omega arith) (omega arith) tt range short_end (omega arith)
length-certificate_text (best n rungs) range =
    let few = range.few in
    length-ladder plain_rung_lines (IsRangedPlainRung n) (codes "best") (numerals (n ∷ last_rung rungs ∷ [])) n rungs (end_line ∷ [])
    (λ i rung. omega arith) (λ k rung small ranged. short_plain_rung n k rung few small ranged)
    (short_ladder_header (IsRangedPlainRung n) (codes "best") n rungs [] (omega arith) range (omega arith) tt) range short_end (omega arith)
length-certificate_text (certificates.rainbow n v c rungs cut missing) range =
    let v_few = range.vertices_in_range.few in
    let c_few = range.few_colours in
    length-priced (codes "rainbow") (v ∷ c ∷ []) n rungs cut (option_lines (codes "colours") missing ++ end_line ∷ []) (omega arith) (omega arith)
    (omega arith, (omega arith, tt)) range.ladder_in_range
    (short_missing c (is_short_of_tree (last_rung rungs) v) missing c_few range.missing_in_range) (length-missing missing)
length-certificate_text (certificates.assign n r c rungs cut) range =
    let r_few = range.few_rows in
    let c_few = range.few_columns in
    length-priced (codes "assign") (r ∷ c ∷ []) n rungs cut (end_line ∷ []) (omega arith) (omega arith) (omega arith, (omega arith, tt))
    range.ladder_in_range short_end (omega arith)
length-certificate_text (certificates.union_of n weight parts levels) range =
    omega (arith, length-plain (certificates.union_of n weight parts levels) tt range)
length-certificate_text (certificates.pack_any n) range = omega (arith, length-plain (certificates.pack_any n) tt range)
length-certificate_text (certificates.pack n bases cut) range = omega (arith, length-plain (certificates.pack n bases cut) tt range)
length-certificate_text (certificates.cover_never n x) range = omega (arith, length-plain (certificates.cover_never n x) tt range)
length-certificate_text (certificates.cover n sets cut) range = omega (arith, length-plain (certificates.cover n sets cut) tt range)
length-certificate_text (certificates.trees n sets) range = omega (arith, length-plain (certificates.trees n sets) tt range)
length-certificate_text (certificates.trees_none n k v classes) range =
    omega (arith, length-plain (certificates.trees_none n k v classes) tt range)
length-certificate_text (certificates.arbor n cost arcs first second) range =
    omega (arith, length-plain (certificates.arbor n cost arcs first second) tt range)
length-certificate_text (certificates.unreached n v set) range = omega (arith, length-plain (certificates.unreached n v set) tt range)
length-certificate_text (certificates.disjoint n sets) range = omega (arith, length-plain (certificates.disjoint n sets) tt range)
length-certificate_text (certificates.disjoint_none n k v set) range =
    omega (arith, length-plain (certificates.disjoint_none n k v set) tt range)
