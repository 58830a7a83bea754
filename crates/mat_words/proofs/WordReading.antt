-- The words of a line: what is read is spelled so, and what is spelled so is read.
use Rattle.mat_words.proofs.Common.{◌≡◌, ℕ, zero, suc, ◌≤◌, ◌<◌, ℤ, pos, ◌-ℤ◌, nat_abs, true, false, List, [], ◌∷◌, ◌++◌, length, map, Result, Ok, Err, refl, sym, ap, subst, ◌∙◌, arith, ◌≤ℤ◌, Option, Some, None, is_some, ints, and_from, All-nil, All-cons, All-head, All-tail, Weight, is_word}
use Rattle.mat_words.proofs.Common.{is_space, numerals, numeral, number_in, weight_word, weight_in, IsWeightBetween, NumberFault, WordsLeft, parts_left, ◌>>=◌, repeat_at, Fault, word_at, item_as, item_at, number_at, size_at, below_at, weight_at, weights_at}
use Rattle.std.specs.Borrow.{Bor}
use Rattle.std.specs.List.{All, list_all}
use Rattle.mat_words.proofs.Splitting.{some_parts}
use Rattle.mat_words.proofs.NumberLemmas.{number_taken, number_again, numeral_word}
use Rattle.mat_words.proofs.WeightLemmas.{weight_taken, weight_again, weight_word-word}
use Rattle.mat_words.proofs.ReadingSteps.{found-same, bind_found}

-- ---- one word

pub word_found : (w : WordsLeft) (word : List ℕ) (q : WordsLeft) → word_at w ≡ Ok (word, q) → w.words ≡ word ∷ q.words
unfolding word_at
word_found w word q e = from w.words e
  where
    from : (words : List (List ℕ)) → word_at (record { line = w.line; words = words }) ≡ Ok (word, q) → words ≡ word ∷ q.words
    from [] h = absurd cc
    from (v ∷ vs) h =
        let same = found-same (v, record { line = w.line; words = vs }) (word, q) h in
        ap (λ (p : List ℕ × WordsLeft). p.0 ∷ p.1.words) same

-- what is left is left of the same line
pub word_line : (w : WordsLeft) (word : List ℕ) (q : WordsLeft) → word_at w ≡ Ok (word, q) → q.line ≡ w.line
unfolding word_at
word_line w word q e = from w.words e
  where
    from : (words : List (List ℕ)) → word_at (record { line = w.line; words = words }) ≡ Ok (word, q) → q.line ≡ w.line
    from [] h = absurd cc
    from (v ∷ vs) h =
        let same = found-same (v, record { line = w.line; words = vs }) (word, q) h in
        sym (ap (λ (p : List ℕ × WordsLeft). p.1.line) same)

pub word_again : (n : ℕ) (word : List ℕ) (words : List (List ℕ))
    → word_at (record { line = n; words = word ∷ words }) ≡ Ok (word, record { line = n; words = words })
unfolding word_at
word_again n word words = refl

pub some_left : (o : Option (Bor (List ℕ))) → is_some o ≡ true → 0 < length (parts_left o)
some_left None h = absurd cc
some_left (Some bytes) h = some_parts is_space bytes.now

pub none_left : (o : Option (Bor (List ℕ))) → is_some o ≡ false → parts_left o ≡ []
none_left None h = refl
none_left (Some bytes) h = absurd cc

-- ---- items: numbers and weights

-- a word was read as an item by this reader of words
pub record IsItemWord {A : Type 0} (reader : List ℕ → Result A NumberFault) (w : WordsLeft) (item : A) (q : WordsLeft) : Type 0 where
  pub word : List ℕ
  pub cut : w.words ≡ word ∷ q.words
  pub read : reader word ≡ Ok item
  pub line : q.line ≡ w.line

pub item_found : {A : Type 0} (reader : List ℕ → Result A NumberFault) (w : WordsLeft) (item : A) (q : WordsLeft)
    → item_at reader w ≡ Ok (item, q) → IsItemWord reader w item q
unfolding word_at
item_found {A} reader w item q e = from w.words refl e
  where
    step : (v : List ℕ) (vs : List (List ℕ)) → w.words ≡ v ∷ vs → (r : Result A NumberFault) → reader v ≡ r
        → item_as (record { line = w.line; words = vs }) r ≡ Ok (item, q) → IsItemWord reader w item q
    step v vs is (Ok y) was h =
        let same = found-same (y, record { line = w.line; words = vs }) (item, q) h in
        let value : y ≡ item = ap (λ (p : A × WordsLeft). p.0) same in
        let rest : vs ≡ q.words = ap (λ (p : A × WordsLeft). p.1.words) same in
        record {
          word = v;
          cut = is ∙ ap (λ (t : List (List ℕ)). v ∷ t) rest;
          read = was ∙ ap (λ (x : A). Ok x) value;
          line = sym (ap (λ (p : A × WordsLeft). p.1.line) same);
        }
    step v vs is (Err fault) was h = absurd cc

    from : (words : List (List ℕ)) → w.words ≡ words → item_at reader (record { line = w.line; words = words }) ≡ Ok (item, q)
        → IsItemWord reader w item q
    from [] is h = absurd cc
    from (v ∷ vs) is h = step v vs is (reader v) refl h

pub item_again : {A : Type 0} (reader : List ℕ → Result A NumberFault) (n : ℕ) (word : List ℕ) (item : A) (words : List (List ℕ))
    → reader word ≡ Ok item
    → item_at reader (record { line = n; words = word ∷ words }) ≡ Ok (item, record { line = n; words = words })
unfolding word_at
item_again reader n word item words read = rw read refl

-- ---- numbers

-- a word was read as a number in low..high: it is the numeral
pub record IsNumberRead (low high : ℤ) (w : WordsLeft) (z : ℤ) (q : WordsLeft) : Type 0 where
  pub cut : w.words ≡ numeral z ∷ q.words
  pub least : low ≤ℤ z
  pub most : z ≤ℤ high
  pub line : q.line ≡ w.line

pub number_found : (low high : ℤ) (w : WordsLeft) (z : ℤ) (q : WordsLeft) → number_at low high w ≡ Ok (z, q) → IsNumberRead low high w z q
unfolding number_at
number_found low high w z q e =
    let word = item_found (number_in low high) w z q e in
    let taken = number_taken low high word.word z word.read in
    record { cut = word.cut ∙ rw taken.0 refl; least = taken.1; most = taken.2; line = word.line }

pub number_at_again : (low high : ℤ) (n : ℕ) (z : ℤ) (words : List (List ℕ)) → low ≤ℤ z → z ≤ℤ high
    → number_at low high (record { line = n; words = numeral z ∷ words }) ≡ Ok (z, record { line = n; words = words })
unfolding number_at
number_at_again low high n z words least most =
    item_again (number_in low high) n (numeral z) z words (number_again low high z least most)

-- a number that was read, as one from 0 on
abbrev as_natural : ℤ × WordsLeft → Result (ℕ × WordsLeft) Fault
as_natural number = Ok (nat_abs number.0, number.1)

-- a word was read as a number from 0 on, in low..high
record IsNaturalRead (low high : ℤ) (w : WordsLeft) (x : ℕ) (q : WordsLeft) : Type 0 where
  cut : w.words ≡ numeral (pos x) ∷ q.words
  least : low ≤ℤ pos x
  most : pos x ≤ℤ high
  line : q.line ≡ w.line

natural_found : (low high : ℤ) (w : WordsLeft) (x : ℕ) (q : WordsLeft) → pos 0 ≤ℤ low
    → (number_at low high w >>= as_natural) ≡ Ok (x, q)
    → IsNaturalRead low high w x q
natural_found low high w x q from e =
    let number = bind_found (number_at low high w) as_natural (x, q) e in
    let read = number_found low high w number.0.0 number.0.1 number.1 in
    let same = found-same (nat_abs number.0.0, number.0.1) (x, q) number.2 in
    let value : nat_abs number.0.0 ≡ x = ap (λ (p : ℕ × WordsLeft). p.0) same in
    let spelled : number.0.0 ≡ pos x = natural low number.0.0 from read.least ∙ ap pos value in
    record {
      cut = read.cut ∙ rw (spelled, ap (λ (p : ℕ × WordsLeft). p.1.words) same) refl;
      least = subst (λ (z : ℤ). low ≤ℤ z) spelled read.least;
      most = subst (λ (z : ℤ). z ≤ℤ high) spelled read.most;
      line = sym (ap (λ (p : ℕ × WordsLeft). p.1.line) same) ∙ read.line;
    }
  where
    natural : (low z : ℤ) → pos 0 ≤ℤ low → low ≤ℤ z → z ≡ pos (nat_abs z)
    natural low z from least = grind (arith, ints)

-- a word was read as a number in low..high
pub record IsSizeRead (low high : ℕ) (w : WordsLeft) (x : ℕ) (q : WordsLeft) : Type 0 where
  pub cut : w.words ≡ numeral (pos x) ∷ q.words
  pub least : low ≤ x
  pub most : x ≤ high

pub size_found : (low high : ℕ) (w : WordsLeft) (x : ℕ) (q : WordsLeft) → size_at low high w ≡ Ok (x, q) → IsSizeRead low high w x q
unfolding size_at
size_found low high w x q e =
    let read = natural_found (pos low) (pos high) w x q (grind (arith, ints)) e in
    record { cut = read.cut; least = within low x read.least; most = within x high read.most }
  where
    within : (x y : ℕ) → pos x ≤ℤ pos y → x ≤ y
    within x y le = grind (arith, ints)

pub size_again : (low high n x : ℕ) (words : List (List ℕ)) → low ≤ x → x ≤ high
    → size_at low high (record { line = n; words = numeral (pos x) ∷ words }) ≡ Ok (x, record { line = n; words = words })
unfolding size_at
size_again low high n x words le ge =
    let least : pos low ≤ℤ pos x = grind (arith, ints) in
    let greatest : pos x ≤ℤ pos high = grind (arith, ints) in
    rw (number_at_again (pos low) (pos high) n (pos x) words least greatest) refl

-- a word was read as a number below the bound
pub record IsBelowRead (bound : ℕ) (w : WordsLeft) (x : ℕ) (q : WordsLeft) : Type 0 where
  pub cut : w.words ≡ numeral (pos x) ∷ q.words
  pub most : x < bound
  pub line : q.line ≡ w.line

pub below_found : (bound : ℕ) (w : WordsLeft) (x : ℕ) (q : WordsLeft) → below_at bound w ≡ Ok (x, q) → IsBelowRead bound w x q
unfolding below_at
below_found bound w x q e =
    let read = natural_found (pos 0) (pos bound -ℤ pos 1) w x q (grind (arith, ints)) e in
    record { cut = read.cut; most = below x bound read.most; line = read.line }
  where
    below : (x bound : ℕ) → pos x ≤ℤ (pos bound -ℤ pos 1) → x < bound
    below x bound le = grind (arith, ints)

pub below_again : (bound n x : ℕ) (words : List (List ℕ)) → x < bound
    → below_at bound (record { line = n; words = numeral (pos x) ∷ words }) ≡ Ok (x, record { line = n; words = words })
unfolding below_at
below_again bound n x words lt =
    let least : pos 0 ≤ℤ pos x = grind (arith, ints) in
    let most : pos x ≤ℤ (pos bound -ℤ pos 1) = grind (arith, ints) in
    rw (number_at_again (pos 0) (pos bound -ℤ pos 1) n (pos x) words least most) refl

-- ---- weights

-- a word was read as a weight of which each number is in low..high: it is its spelling
pub record IsWeightRead (low high : ℤ) (w : WordsLeft) (weight : Weight) (q : WordsLeft) : Type 0 where
  pub cut : w.words ≡ weight_word weight ∷ q.words
  pub valid : IsWeightBetween low high weight

pub weight_found : (low high : ℤ) (w : WordsLeft) (weight : Weight) (q : WordsLeft) → weight_at low high w ≡ Ok (weight, q)
    → IsWeightRead low high w weight q
unfolding weight_at
weight_found low high w weight q e =
    let word = item_found (weight_in low high) w weight q e in
    let taken = weight_taken low high word.word weight word.read in
    record { cut = word.cut ∙ rw taken.0 refl; valid = taken.1 }

pub weight_at_again : (low high : ℤ) (n : ℕ) (weight : Weight) (words : List (List ℕ)) → IsWeightBetween low high weight
    → weight_at low high (record { line = n; words = weight_word weight ∷ words }) ≡ Ok (weight, record { line = n; words = words })
unfolding weight_at
weight_at_again low high n weight words valid =
    item_again (weight_in low high) n (weight_word weight) weight words (weight_again low high weight valid)

-- a number that is read is a weight without a tie
pub untied_found : (low high : ℤ) (w : WordsLeft) (z : ℤ) (q : WordsLeft) → low ≤ℤ pos 0 → pos 0 ≤ℤ high
    → number_at low high w ≡ Ok (z, q) → weight_at low high w ≡ Ok (record { main = z; tie = pos 0 }, q)
untied_found low high w z q least most e =
    let read = number_found low high w z q e in
    let weight : Weight = record { main = z; tie = pos 0 } in
    ap (λ (words : List (List ℕ)). weight_at low high (record { line = w.line; words = words })) read.cut
    ∙ weight_at_again low high w.line weight q.words ((read.least, read.most), (least, most))
    ∙ ap (λ (n : ℕ). Ok (weight, record { line = n; words = q.words })) (sym read.line)

-- as many words were read as weights
pub record AreWeightsRead (low high : ℤ) (many : ℕ) (w : WordsLeft) (weights : List Weight) (q : WordsLeft) : Type 0 where
  pub cut : w.words ≡ map weight_word weights ++ q.words
  pub count : length weights ≡ many
  pub each : All (IsWeightBetween low high) weights

repeat_found : (low high : ℤ) (many : ℕ) (w : WordsLeft) (weights : List Weight) (q : WordsLeft)
    → repeat_at (weight_at low high) many w ≡ Ok (weights, q) → AreWeightsRead low high many w weights q
unfolding repeat_at
repeat_found low high zero w weights q e =
    let same = found-same ([], w) (weights, q) e in
    subst (λ (p : List Weight × WordsLeft). AreWeightsRead low high 0 w p.0 p.1) same
    (record { cut = refl; count = refl; each = All-nil (IsWeightBetween low high) })
repeat_found low high (suc many) w weights q e =
    let first = bind_found (weight_at low high w)
    (λ first. repeat_at (weight_at low high) many first.1 >>= λ others. Ok (first.0 ∷ others.0, others.1)) (weights, q) e in
    let others = bind_found (repeat_at (weight_at low high) many first.0.1) (λ others. Ok (first.0.0 ∷ others.0, others.1)) (weights, q)
    first.2 in
    let one = weight_found low high w first.0.0 first.0.1 first.1 in
    let more = repeat_found low high many first.0.1 others.0.0 others.0.1 others.1 in
    let same = found-same (first.0.0 ∷ others.0.0, others.0.1) (weights, q) others.2 in
    subst (λ (p : List Weight × WordsLeft). AreWeightsRead low high (suc many) w p.0 p.1) same
    (record {
      cut = one.cut ∙ ap (λ (t : List (List ℕ)). weight_word first.0.0 ∷ t) more.cut;
      count = ap suc more.count;
      each = All-cons (IsWeightBetween low high) first.0.0 others.0.0 one.valid more.each;
    })

pub weights_found : (low high : ℤ) (many : ℕ) (w : WordsLeft) (weights : List Weight) (q : WordsLeft)
    → weights_at low high many w ≡ Ok (weights, q) → AreWeightsRead low high many w weights q
unfolding weights_at
weights_found low high many w weights q e = repeat_found low high many w weights q e

pub weights_again : (low high : ℤ) (n : ℕ) (weights : List Weight) → All (IsWeightBetween low high) weights
    → weights_at low high (length weights) (record { line = n; words = map weight_word weights })
    ≡ Ok (weights, record { line = n; words = [] })
unfolding weights_at repeat_at
weights_again low high n [] each = refl
weights_again low high n (weight ∷ weights) each =
    let here = All-head (IsWeightBetween low high) weight weights each in
    let others = weights_again low high n weights (All-tail (IsWeightBetween low high) weight weights each) in
    rw (weight_at_again low high n weight (map weight_word weights) here, others) refl

-- ---- numerals and spellings are words

pub numerals_words : (xs : List ℕ) → list_all is_word (numerals xs) ≡ true
numerals_words [] = refl
numerals_words (x ∷ xs) = and_from (is_word (numeral (pos x))) (list_all is_word (numerals xs)) (numeral_word (pos x)) (numerals_words xs)

pub weights_words : (weights : List Weight) → list_all is_word (map weight_word weights) ≡ true
weights_words [] = refl
weights_words (weight ∷ weights) =
    and_from (is_word (weight_word weight)) (list_all is_word (map weight_word weights)) (weight_word-word weight) (weights_words weights)
