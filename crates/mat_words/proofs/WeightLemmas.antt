-- Each weight has one spelling: no `:` stands in a numeral, so a word is cut at its one `:` into the numerals of which it was made.
use Rattle.mat_words.proofs.Common.{◌≡◌, ◌≢◌, ℕ, zero, suc, ◌+◌, Bool, true, false, ◌&&◌, cond, List, [], ◌∷◌, ◌++◌, length, refl, sym, ap, subst, ◌∙◌, arith, Option, Some, None, Ok, Err, Result, ℤ, pos, negsuc, ◌↔◌, IfOk, and_parts, and_from, ne_eqb, all_below_base_digits_of, All-nil, All-cons}
use Rattle.mat_words.proofs.Common.{slice_split_none, slice_split_at, join_with_byte-slice_split, Weight, NumberFault, Spelling, Range, numeral, number_of, is_between, in_range, ranged, is_byte, is_letter, is_word, weight_word, untied, tied, weight_of_parts, weight_of_word, IsWeightBetween}
use Rattle.mat_words.proofs.Common.{is_weight_between, weight_in, both_in}
use Rattle.std.specs.List.{All, list_all, slice_split, join_with_byte}
use Rattle.std.specs.Ordering.{int_eq}
use Rattle.std.specs.Int.Digits.{digits_of, AllBelowBase}
use Rattle.std.proofs.lemmas.Bool.Decides.{Decides-int_eq}
use Rattle.mat_words.proofs.NumberLemmas.{digit_bytes, spelled, read_again, numeral_word, ranged_ok, between_gives, between_from}
use Rattle.mat_words.proofs.Splitting.{some_parts}
use Rattle.mat_words.proofs.WordLemmas.{word_letters}

-- ---- a numeral has no `:`

abbrev IsNoColon : ℕ → Type 0
IsNoColon b = is_byte 58 b ≡ false

digits_no_colon : (ds : List ℕ) → AllBelowBase 10 ds → All IsNoColon (digit_bytes ds)
digits_no_colon [] h = All-nil IsNoColon
digits_no_colon (d ∷ ds) h = All-cons IsNoColon (48 + d) (digit_bytes ds) (ne_eqb (48 + d) 58 (λ e. omega (arith, h.0))) (digits_no_colon ds h.1)

no_colon : (z : ℤ) → All IsNoColon (numeral z)
no_colon (pos zero) = All-cons IsNoColon 48 [] refl (All-nil IsNoColon)
no_colon (pos (suc n)) = digits_no_colon (digits_of 10 (suc n)) (all_below_base_digits_of 10 (suc n) (omega arith))
no_colon (negsuc n) =
    All-cons IsNoColon 45 (digit_bytes (digits_of 10 (suc n))) refl
    (digits_no_colon (digits_of 10 (suc n)) (all_below_base_digits_of 10 (suc n) (omega arith)))

-- a numeral is one part, and two with a `:` between them are two
one_part : (z : ℤ) → slice_split (is_byte 58) (numeral z) ≡ numeral z ∷ []
one_part z = slice_split_none (is_byte 58) (numeral z) (no_colon z)

two_parts : (z y : ℤ) → slice_split (is_byte 58) (numeral z ++ 58 ∷ numeral y) ≡ numeral z ∷ numeral y ∷ []
two_parts z y =
    slice_split_at (is_byte 58) (numeral z) 58 (numeral y) (no_colon z) refl ∙ ap (λ (t : List (List ℕ)). numeral z ∷ t) (one_part y)

-- ---- the spelling of a weight is read as that weight

is_zero : (z : ℤ) → int_eq z (pos 0) ≡ true → z ≡ pos 0
is_zero z h = (Decides-int_eq z (pos 0)).0 h

pub weight_read : (w : Weight) → weight_of_word (weight_word w) ≡ Some w
weight_read w = by (int_eq w.tie (pos 0)) refl
  where
    by : (b : Bool) → int_eq w.tie (pos 0) ≡ b → weight_of_word (cond b (numeral w.main) (numeral w.main ++ 58 ∷ numeral w.tie)) ≡ Some w
    by true e = rw (one_part w.main, read_again w.main, ← is_zero w.tie e) refl
    by false e = rw (two_parts w.main w.tie, read_again w.main, read_again w.tie, e) refl

-- ---- a word that is read as a weight is its spelling

untied_spelled : (word : List ℕ) (o : Option ℤ) (w : Weight) → number_of word ≡ o → untied o ≡ Some w → word ≡ weight_word w
untied_spelled word None w is h = absurd cc
untied_spelled word (Some z) w is h =
    let same : record { main = z; tie = pos 0 } ≡ w = cc in
    subst (λ (v : Weight). word ≡ weight_word v) same (spelled word z is)

tied_spelled : (main tie : List ℕ) (o r : Option ℤ) (w : Weight) → number_of main ≡ o → number_of tie ≡ r → tied o r ≡ Some w
    → main ++ 58 ∷ tie ≡ weight_word w
tied_spelled main tie None r w is it h = absurd cc
tied_spelled main tie (Some z) None w is it h = absurd cc
tied_spelled main tie (Some z) (Some y) w is it h = by (int_eq y (pos 0)) refl h
  where
    by : (b : Bool) → int_eq y (pos 0) ≡ b → cond b None (Some (record { main = z; tie = y })) ≡ Some w → main ++ 58 ∷ tie
        ≡ weight_word w
    by true e k = absurd cc
    by false e k =
        let same : record { main = z; tie = y } ≡ w = cc in
        let here : main ++ 58 ∷ tie ≡ weight_word (record { main = z; tie = y }) = rw (e, spelled main z is, spelled tie y it) refl in
        subst (λ (v : Weight). main ++ 58 ∷ tie ≡ weight_word v) same here

parts_spelled : (parts : List (List ℕ)) (w : Weight) → weight_of_parts parts ≡ Some w → join_with_byte 58 parts ≡ weight_word w
parts_spelled [] w h = absurd cc
parts_spelled (main ∷ []) w h = untied_spelled main (number_of main) w refl h
parts_spelled (main ∷ tie ∷ []) w h = tied_spelled main tie (number_of main) (number_of tie) w refl refl h
parts_spelled (main ∷ tie ∷ more ∷ parts) w h = absurd cc

pub weight_spelled : (word : List ℕ) (w : Weight) → weight_of_word word ≡ Some w → word ≡ weight_word w
weight_spelled word w h = sym (join_with_byte-slice_split 58 word) ∙ parts_spelled (slice_split (is_byte 58) word) w h

-- a number is a weight word
pub number_is_weight : (word : List ℕ) (z : ℤ) → number_of word ≡ Some z → weight_of_word word ≡ Some (record { main = z; tie = pos 0 })
number_is_weight word z h = rw (spelled word z h, one_part z, read_again z) refl

-- ---- the spelling of a weight is a word

letters_append : (a b : List ℕ) → list_all is_letter a ≡ true → list_all is_letter b ≡ true → list_all is_letter (a ++ b) ≡ true
letters_append [] b h k = k
letters_append (x ∷ xs) b h k =
    let p = and_parts (is_letter x) (list_all is_letter xs) h in
    and_from (is_letter x) (list_all is_letter (xs ++ b)) p.0 (letters_append xs b p.1 k)

word_append : (a b : List ℕ) → is_word a ≡ true → list_all is_letter b ≡ true → is_word (a ++ b) ≡ true
word_append [] b h k = absurd cc
word_append (x ∷ xs) b h k = letters_append (x ∷ xs) b h k

pub weight_word-word : (w : Weight) → is_word (weight_word w) ≡ true
weight_word-word w = by (int_eq w.tie (pos 0))
  where
    by : (b : Bool) → is_word (cond b (numeral w.main) (numeral w.main ++ 58 ∷ numeral w.tie)) ≡ true
    by true = numeral_word w.main
    by false = word_append (numeral w.main) (58 ∷ numeral w.tie) (numeral_word w.main) (word_letters (numeral w.tie) (numeral_word w.tie))

-- ---- weights in a range

weight_between_gives : (low high : ℤ) (w : Weight) → is_weight_between low high w ≡ true → IsWeightBetween low high w
weight_between_gives low high w h =
    let p = and_parts (is_between low high w.main) (is_between low high w.tie) h in
    (between_gives low high w.main p.0, between_gives low high w.tie p.1)

weight_between_from : (low high : ℤ) (w : Weight) → IsWeightBetween low high w → is_weight_between low high w ≡ true
weight_between_from low high w h = and_from (is_between low high w.main) (is_between low high w.tie) (between_from low high w.main h.0)
    (between_from low high w.tie h.1)

-- what is read as a weight in a range is its spelling
pub weight_taken : (low high : ℤ) (word : List ℕ) (w : Weight) → weight_in low high word ≡ Ok w → (word ≡ weight_word w)
    × IsWeightBetween low high w
weight_taken low high word w e =
    let p = ranged_ok (is_weight_between low high) (weight_of_word word) w e in
    (weight_spelled word w p.0, weight_between_gives low high w p.1)

-- the spelling of a weight in a range is read as that weight
pub weight_again : (low high : ℤ) (w : Weight) → IsWeightBetween low high w → weight_in low high (weight_word w) ≡ Ok w
weight_again low high w h = rw (weight_read w, weight_between_from low high w h) refl

pub weight_exact : (low high : ℤ) (w : Weight) (word : List ℕ)
    → (weight_in low high word ≡ Ok w) ↔ ((word ≡ weight_word w) × IsWeightBetween low high w)
weight_exact low high w word = (weight_taken low high word w, λ p. ap (weight_in low high) p.0 ∙ weight_again low high w p.1)

-- ---- a weight as the code reads it

-- two numbers in the range are the two of a weight in the range
both_numbers : (p q : Bool) (x y : ℤ)
    → cond (p && q) (Ok (record { main = x; tie = y })) (Err Range) ≡ both_in (cond p (Ok x) (Err Range)) (cond q (Ok y) (Err Range))
both_numbers true true x y = refl
both_numbers true false x y = refl
both_numbers false true x y = refl
both_numbers false false x y = refl

misspelled_tie : (p : Bool) (x : ℤ) → Err Spelling ≡ both_in (cond p (Ok x) (Err Range)) (Err Spelling)
misspelled_tie true x = refl
misspelled_tie false x = refl

-- two words, of which the second isn't `0`
pub both_are : (low high : ℤ) (main tie : List ℕ) → tie ≢ 48 ∷ []
    → both_in (in_range low high (number_of main)) (in_range low high (number_of tie))
    ≡ ranged (is_weight_between low high) (tied (number_of main) (number_of tie))
both_are low high main tie other = from (number_of main) (number_of tie) refl
  where
    by : (x y : ℤ) (b : Bool) → int_eq y (pos 0) ≡ b → number_of tie ≡ Some y
        → ranged (is_weight_between low high) (tied (Some x) (Some y)) ≡ both_in (in_range low high (Some x)) (in_range low high (Some y))
    by x y true e is = absurd (other (spelled tie (pos 0) (is ∙ ap (λ (z : ℤ). Some z) (is_zero y e))))
    by x y false e is = rw e (both_numbers (is_between low high x) (is_between low high y) x y)

    from : (o r : Option ℤ) → number_of tie ≡ r
        → both_in (in_range low high o) (in_range low high r) ≡ ranged (is_weight_between low high) (tied o r)
    from None r is = refl
    from (Some x) None is = sym (misspelled_tie (is_between low high x) x)
    from (Some x) (Some y) is = sym (by x y (int_eq y (pos 0)) refl is)

-- what stands behind the first `:` spells the tie, since in a numeral no other one stands
pub tied_parts : (main tie : List ℕ) → weight_of_parts (main ∷ slice_split (is_byte 58) tie) ≡ tied (number_of main) (number_of tie)
tied_parts main tie = from (slice_split (is_byte 58) tie) refl
  where
    none : (o : Option ℤ) → None ≡ tied o None
    none None = refl
    none (Some x) = refl

    more : (t u : List ℕ) (us : List (List ℕ)) → slice_split (is_byte 58) tie ≡ t ∷ u ∷ us → (r : Option ℤ) → number_of tie ≡ r
        → None ≡ tied (number_of main) r
    more t u us is None unread = none (number_of main)
    more t u us is (Some z) read =
        let one : slice_split (is_byte 58) tie ≡ tie ∷ [] = rw (spelled tie z read) (one_part z) in
        let both : t ∷ u ∷ us ≡ tie ∷ [] = sym is ∙ one in
        absurd cc

    from : (parts : List (List ℕ)) → slice_split (is_byte 58) tie ≡ parts → weight_of_parts (main ∷ parts)
        ≡ tied (number_of main) (number_of tie)
    from [] is = absurd (omega (arith, some_parts (is_byte 58) tie, ap length is))
    from (t ∷ []) is =
        let same : t ≡ tie = sym (ap (join_with_byte 58) is) ∙ join_with_byte-slice_split 58 tie in
        rw same refl
    from (t ∷ u ∷ us) is = more t u us is (number_of tie) refl

-- a number that fails where one in the range is needed makes no weight in the range either
pub untied_fails : (low high : ℤ) (o : Option ℤ) (fault : NumberFault) → in_range low high o ≡ Err fault
    → Err fault ≡ ranged (is_weight_between low high) (untied o)
untied_fails low high None fault e = cc
untied_fails low high (Some x) fault e = by (is_between low high x) refl e
  where
    by : (b : Bool) → is_between low high x ≡ b → cond b (Ok x) (Err Range) ≡ Err fault → Err fault
        ≡ ranged (is_weight_between low high) (untied (Some x))
    by true is h = absurd cc
    by false is h =
        let same : Range ≡ fault = cc in
        rw (is, ← same) refl

-- a weight that is found where one in the range is needed is in the range
pub weight_range : (low high : ℤ) (o : Option Weight) (r : Result Weight NumberFault) → r ≡ ranged (is_weight_between low high) o
    → IfOk r (λ w. IsWeightBetween low high w)
weight_range low high o (Ok w) e = weight_between_gives low high w (ranged_ok (is_weight_between low high) o w (sym e)).1
weight_range low high o (Err fault) e = tt

-- a word that a number spells, or one outside the range, is read as the weight without a tie
pub untied_is : (low high : ℤ) (word : List ℕ) (r : Result Weight NumberFault)
    → r ≡ ranged (is_weight_between low high) (untied (number_of word)) → r ≢ Err Spelling → r ≡ weight_in low high word
untied_is low high word r read other = by (number_of word) refl read
  where
    by : (o : Option ℤ) → number_of word ≡ o → r ≡ ranged (is_weight_between low high) (untied o) → r ≡ weight_in low high word
    by None is e = absurd (other e)
    by (Some z) is e = e ∙ ap (λ (o : Option Weight). ranged (is_weight_between low high) o) (sym (number_is_weight word z is))

pub read_is_no_misspelling : (w : Weight) → Ok w ≢ Err Spelling
read_is_no_misspelling w h = absurd cc

pub range_is_no_misspelling : (r : Result Weight NumberFault) → r ≡ Err Range → r ≢ Err Spelling
range_is_no_misspelling (Ok w) e h = absurd cc
range_is_no_misspelling (Err Range) e h = absurd cc
range_is_no_misspelling (Err Spelling) e h = absurd cc
