-- Reading lines, words, numbers and weights, as a description tells of it: what is told was read, and so is spelled.
use Rattle.mat_desc.proofs.Common.{◌≡◌, ℕ, true, eqb, List, [], ◌∷◌, length, pos, Ok, refl, ap, ◌∙◌, arith, neg_ℤ, eqb-true, Weight, is_word, numeral, Line, WordsLeft, LinesLeft, test_found, told_found, largest_weight, TooManyWords, kind_of, line_at, keyed_at, word_at, size_at, below_at, binary_at}
use Rattle.mat_desc.proofs.Common.{weight_at, next_weights_at, ended_at}
use Rattle.std.specs.List.{list_all}
use Rattle.mat_words.specs.Reading as reading
use Rattle.mat_words.proofs.WordReading as words
use Rattle.mat_words.proofs.BinaryLaws as digits
use Rattle.mat_words.proofs.LineReading as lines

-- ---- what is read

pub line_found : (p : LinesLeft) (w : WordsLeft) (q : LinesLeft) → line_at p ≡ Ok (w, q) → (rest : List Line) → lines.AreLeft rest q
    → lines.AreLeft (w.words ∷ rest) p
line_found p w q e = lines.line_found p w q (told_found kind_of (reading.line_at p) (w, q) e)

pub keyed_found : (key : List ℕ) (p : LinesLeft) (w : WordsLeft) (q : LinesLeft) → keyed_at key p ≡ Ok (w, q) → (rest : List Line)
    → lines.AreLeft rest q → lines.AreLeft ((key ∷ w.words) ∷ rest) p
keyed_found key p w q e = lines.keyed_found key p w q (told_found kind_of (reading.keyed_at key p) (w, q) e)

pub keyed_words : (key : List ℕ) (p : LinesLeft) (w : WordsLeft) (q : LinesLeft) → keyed_at key p ≡ Ok (w, q)
    → list_all is_word w.words ≡ true
keyed_words key p w q e = lines.keyed_words key p w q (told_found kind_of (reading.keyed_at key p) (w, q) e)

pub word_found : (w : WordsLeft) (word : List ℕ) (q : WordsLeft) → word_at w ≡ Ok (word, q) → w.words ≡ word ∷ q.words
word_found w word q e = words.word_found w word q (told_found kind_of (reading.word_at w) (word, q) e)

pub word_line : (w : WordsLeft) (word : List ℕ) (q : WordsLeft) → word_at w ≡ Ok (word, q) → q.line ≡ w.line
word_line w word q e = words.word_line w word q (told_found kind_of (reading.word_at w) (word, q) e)

pub size_found : (low high : ℕ) (w : WordsLeft) (x : ℕ) (q : WordsLeft) → size_at low high w ≡ Ok (x, q) → words.IsSizeRead low high w x q
size_found low high w x q e = words.size_found low high w x q (told_found kind_of (reading.size_at low high w) (x, q) e)

pub below_found : (bound : ℕ) (w : WordsLeft) (x : ℕ) (q : WordsLeft) → below_at bound w ≡ Ok (x, q) → words.IsBelowRead bound w x q
below_found bound w x q e = words.below_found bound w x q (told_found kind_of (reading.below_at bound w) (x, q) e)

pub binary_found : (many : ℕ) (w : WordsLeft) (z : ℕ) (q : WordsLeft) → binary_at many w ≡ Ok (z, q) → digits.IsBinaryRead many w z q
binary_found many w z q e = digits.binary_found many w z q (told_found kind_of (reading.binary_at many w) (z, q) e)

pub weight_found : (w : WordsLeft) (weight : Weight) (q : WordsLeft) → weight_at w ≡ Ok (weight, q)
    → words.IsWeightRead (neg_ℤ (pos largest_weight)) (pos largest_weight) w weight q
weight_found w weight q e =
    let low = neg_ℤ (pos largest_weight) in
    let high = pos largest_weight in
    words.weight_found low high w weight q (told_found kind_of (reading.weight_at low high w) (weight, q) e)

pub weights_found : (many : ℕ) (w : WordsLeft) (weights : List Weight) (q : WordsLeft) → next_weights_at many w ≡ Ok (weights, q)
    → words.AreWeightsRead (neg_ℤ (pos largest_weight)) (pos largest_weight) many w weights q
weights_found many w weights q e =
    let low = neg_ℤ (pos largest_weight) in
    let high = pos largest_weight in
    words.weights_found low high many w weights q (told_found kind_of (reading.weights_at low high many w) (weights, q) e)

-- ---- the end of a line

pub ended_found : (w : WordsLeft) (u : Unit {0}) → ended_at w ≡ Ok u → w.words ≡ []
unfolding ended_at
ended_found w u e = none w.words (eqb-true (length w.words) 0 (test_found (eqb (length w.words) 0) (TooManyWords, w.line) _ u e).0)
  where
    none : (words : List (List ℕ)) → length words ≡ 0 → words ≡ []
    none [] h = refl
    none (v ∷ vs) h = absurd (omega arith)

pub ended_again : (n : ℕ) → ended_at (record { line = n; words = [] }) ≡ Ok tt
unfolding ended_at
ended_again n = refl

-- a word in front of what is left
pub cut_then : (word : List ℕ) (words after rest : List (List ℕ)) → words ≡ word ∷ after → after ≡ rest → words ≡ word ∷ rest
cut_then word words after rest cut same = cut ∙ ap (λ (t : List (List ℕ)). word ∷ t) same

-- a number that is as many as were counted
pub count_line : (x y : ℕ) (words after : List (List ℕ)) → words ≡ numeral (pos x) ∷ after → after ≡ [] → y ≡ x
    → words ≡ numeral (pos y) ∷ []
count_line x y words after cut none same = rw (same, ← none) cut
