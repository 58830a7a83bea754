-- Each number has one spelling: digits of which the first isn't `0` are the digits of what they stand for, since each further digit is the
-- last one of ten times the value so far and the digit; and the digits of a number stand for it.
use Rattle.mat_words.proofs.Common.{◌≡◌, ℕ, zero, suc, ◌+◌, ◌-◌, ◌*◌, ◌/◌, ◌%◌, ◌<◌, ◌≤◌, Bool, true, false, cond, eqb, leb, List, [], ◌∷◌, ◌++◌, map, length, get_or, take, refl, sym, ap, subst, inl, inr, ◌∙◌, arith, Option, Some, None, Result, Ok, Err, ℤ, pos, negsuc, neg_ℤ, int_le, ◌≤ℤ◌, ◌↔◌}
use Rattle.mat_words.proofs.Common.{ints, NumberFault, Range, take_more, take_all, map_push, get_or-take, length-take, nil_from_length, digits_of_step, number_digits_of, first_digits_of, all_below_base_digits_of, le-leb, leb-true, and_parts, and_from, eqb-true, eq-eqb, ne_eqb, cases_eq, numeral}
use Rattle.mat_words.proofs.Common.{is_digit, is_counting, decimal, value_of, number_of, number_in, IsBetween, is_between, ranged, is_letter, is_word}
use Rattle.std.specs.List.{list_all}
use Rattle.std.specs.Int.Digits.{digits_of, number_from_digits, AllBelowBase}
use Rattle.mat_words.proofs.DigitLemmas.{value_more, first_counts}

-- digits as bytes
abbrev pub digit_bytes : List ℕ → List ℕ
digit_bytes ds = map (λ d. 48 + d) ds

-- what the test of a digit says
digit_bounds : (c : ℕ) → is_digit c ≡ true → (48 ≤ c) × (c ≤ 57)
digit_bounds c h = let p = and_parts (leb 48 c) (leb c 57) h in (leb-true 48 c p.0, leb-true c 57 p.1)

pub digit_at : (cs : List ℕ) (i : ℕ) → list_all is_digit cs ≡ true → i < length cs → (48 ≤ get_or cs i 0) × (get_or cs i 0 ≤ 57)
digit_at [] i all lt = absurd (omega arith)
digit_at (c ∷ cs) zero all lt = digit_bounds c (and_parts (is_digit c) (list_all is_digit cs) all).0
digit_at (c ∷ cs) (suc i) all lt = digit_at cs i (and_parts (is_digit c) (list_all is_digit cs) all).1 (omega arith)

-- one more digit
next_digit : (cs : List ℕ) (i : ℕ) → i < length cs → 48 ≤ get_or cs i 0 → get_or cs i 0 ≤ 57 → 0 < value_of (take (i + 1) cs)
    → decimal (value_of (take i cs)) ≡ take i cs → decimal (value_of (take (i + 1) cs)) ≡ take (i + 1) cs
next_digit cs i lt low high some so_far =
    let v = value_of (take i cs) in
    let c = get_or cs i 0 in
    let w = value_of (take (i + 1) cs) in
    let e : w ≡ v * 10 + (c - 48) = value_more cs i lt in
    let front : w / 10 ≡ v = omega arith in
    let last : w % 10 ≡ c - 48 = omega arith in
    let back : 48 + (c - 48) ≡ c = omega arith in
    let digits : digits_of 10 w ≡ digits_of 10 v ++ (c - 48) ∷ [] = rw (digits_of_step 10 w (omega arith) some, front, last) refl in
    ap digit_bytes digits ∙ map_push (λ d. 48 + d) (digits_of 10 v) (c - 48) ∙ rw (so_far, back) (sym (take_more cs i 0 lt))

-- the first i digits are the digits of what they stand for
front_again : (cs : List ℕ) → list_all is_digit cs ≡ true → 49 ≤ get_or cs 0 0 → (i : ℕ) → i ≤ length cs
    → decimal (value_of (take i cs)) ≡ take i cs
front_again cs all first zero le = refl
front_again cs all first (suc i) le =
    let b = digit_at cs i all (omega arith) in
    let one : i + 1 ≡ suc i = omega arith in
    let head : get_or (take (i + 1) cs) 0 0 ≡ get_or cs 0 0 = get_or-take (i + 1) cs 0 0 (omega arith) in
    let some : 0 < value_of (take (i + 1) cs) = first_counts (take (i + 1) cs) (omega (arith, length-take (i + 1) cs)) (omega arith) in
    let more = next_digit cs i (omega arith) b.0 b.1 some (front_again cs all first i (omega arith)) in
    subst (λ (k : ℕ). decimal (value_of (take k cs)) ≡ take k cs) one more

-- what the test of a counting number says
first_of : (cs : List ℕ) → is_counting cs ≡ true → (list_all is_digit cs ≡ true) × (49 ≤ get_or cs 0 0) × (0 < length cs)
first_of [] h = absurd cc
first_of (c ∷ cs) h = let p = and_parts (leb 49 c) (list_all is_digit (c ∷ cs)) h in (p.1, leb-true 49 c p.0, omega arith)

-- digits with no 0 in front are the digits of what they stand for
pub digits_back : (cs : List ℕ) → is_counting cs ≡ true → (decimal (value_of cs) ≡ cs) × (0 < value_of cs)
digits_back cs h =
    let p = first_of cs h in
    let all : take (length cs) cs ≡ cs = take_all (length cs) cs (omega arith) in
    (subst (λ (t : List ℕ). decimal (value_of t) ≡ t) all (front_again cs p.0 p.1 (length cs) (omega arith)), first_counts cs p.2 p.1)

digit_bytes_value : (ds : List ℕ) → map (λ c. c - 48) (digit_bytes ds) ≡ ds
digit_bytes_value [] = refl
digit_bytes_value (d ∷ ds) = let e : 48 + d - 48 ≡ d = omega arith in rw (e, digit_bytes_value ds) refl

digit_bytes_digits : (ds : List ℕ) → AllBelowBase 10 ds → list_all is_digit (digit_bytes ds) ≡ true
digit_bytes_digits [] h = refl
digit_bytes_digits (d ∷ ds) h = and_from (is_digit (48 + d)) (list_all is_digit (digit_bytes ds))
    (and_from (leb 48 (48 + d)) (leb (48 + d) 57) (le-leb 48 (48 + d) (omega arith)) (le-leb (48 + d) 57 (omega (arith, h.0))))
    (digit_bytes_digits ds h.1)

-- digits of which the first isn't 0 are a counting number
counting_from : (ds : List ℕ) → AllBelowBase 10 ds → 0 < get_or ds 0 0 → is_counting (digit_bytes ds) ≡ true
counting_from [] h some = absurd (omega arith)
counting_from (d ∷ ds) h some = and_from (leb 49 (48 + d)) (list_all is_digit (digit_bytes (d ∷ ds))) (le-leb 49 (48 + d) (omega arith))
    (digit_bytes_digits (d ∷ ds) h)

-- and the digits of a number stand for it
pub digits_again : (n : ℕ) → 0 < n → (is_counting (decimal n) ≡ true) × (value_of (decimal n) ≡ n)
digits_again n some = (
  counting_from (digits_of 10 n) (all_below_base_digits_of 10 n (omega arith)) (first_digits_of 10 n (omega arith) some),
  ap (number_from_digits 10) (digit_bytes_value (digits_of 10 n)) ∙ number_digits_of 10 n (omega arith),
)

-- the numeral of a number above 0, and of one below
pub numeral_pos : (v : ℕ) → 0 < v → numeral (pos v) ≡ decimal v
numeral_pos zero some = absurd (omega arith)
numeral_pos (suc v) some = refl

numeral_neg : (v : ℕ) → 0 < v → numeral (neg_ℤ (pos v)) ≡ 45 ∷ decimal v
numeral_neg zero some = absurd (omega arith)
numeral_neg (suc v) some = refl

-- an answer that is given under a test
some_if : (b : Bool) (x z : ℤ) → cond b (Some x) None ≡ Some z → (b ≡ true) × (x ≡ z)
some_if true x z h = (refl, cc)
some_if false x z h = absurd cc

-- the three kinds of numerals
spelled_neg : (cs : List ℕ) (z : ℤ) → cond (is_counting cs) (Some (neg_ℤ (pos (value_of cs)))) None ≡ Some z → 45 ∷ cs ≡ numeral z
spelled_neg cs z h =
    let p = some_if (is_counting cs) (neg_ℤ (pos (value_of cs))) z h in
    let d = digits_back cs p.0 in
    ap (λ (t : List ℕ). 45 ∷ t) (sym d.0) ∙ sym (numeral_neg (value_of cs) d.1) ∙ ap numeral p.1

spelled_pos : (cs : List ℕ) (z : ℤ) → cond (is_counting cs) (Some (pos (value_of cs))) None ≡ Some z → cs ≡ numeral z
spelled_pos cs z h =
    let p = some_if (is_counting cs) (pos (value_of cs)) z h in
    let d = digits_back cs p.0 in
    sym d.0 ∙ sym (numeral_pos (value_of cs) d.1) ∙ ap numeral p.1

spelled_zero : (c : ℕ) (cs : List ℕ) (z : ℤ) → c ≡ 48 → cond (eqb (length cs) 0) (Some (pos 0)) None ≡ Some z → c ∷ cs ≡ numeral z
spelled_zero c cs z e h =
    let p = some_if (eqb (length cs) 0) (pos 0) z h in
    let none : cs ≡ [] = nil_from_length cs (eqb-true (length cs) 0 p.0) in
    rw (e, none, ← p.1) refl

-- a word that is a number is the number's one spelling
pub spelled : (w : List ℕ) (z : ℤ) → number_of w ≡ Some z → w ≡ numeral z
spelled [] z h = absurd cc
spelled (c ∷ cs) z h =
    elim (cases_eq c 45) [
      | inl e ↦ rw e (spelled_neg cs z (rw (eq-eqb c 45 e) at h))
      | inr ne ↦ elim (cases_eq c 48) [
        | inl e ↦ spelled_zero c cs z e (rw (ne_eqb c 45 ne, eq-eqb c 48 e) at h)
        | inr other ↦ spelled_pos (c ∷ cs) z (rw (ne_eqb c 45 ne, ne_eqb c 48 other) at h)
      ]
    ]

-- a counting number is read as what it stands for
read_pos : (w : List ℕ) → is_counting w ≡ true → number_of w ≡ Some (pos (value_of w))
read_pos [] h = absurd cc
read_pos (c ∷ cs) h =
    let first : 49 ≤ c = (first_of (c ∷ cs) h).1 in
    rw (ne_eqb c 45 (λ e. omega arith), ne_eqb c 48 (λ e. omega arith), h) refl

-- and that spelling is read as the number
pub read_again : (z : ℤ) → number_of (numeral z) ≡ Some z
read_again (pos zero) = refl
read_again (pos (suc n)) = let p = digits_again (suc n) (omega arith) in read_pos (decimal (suc n)) p.0 ∙ ap (λ (v : ℕ). Some (pos v)) p.1
read_again (negsuc n) = let p = digits_again (suc n) (omega arith) in rw (p.0, p.1) refl

-- the digits of a number that isn't 0 are a word
digits_letters : (ds : List ℕ) → AllBelowBase 10 ds → list_all is_letter (digit_bytes ds) ≡ true
digits_letters [] h = refl
digits_letters (d ∷ ds) h = and_from (is_letter (48 + d)) (list_all is_letter (digit_bytes ds))
    (and_from (leb 33 (48 + d)) (leb (48 + d) 126) (le-leb 33 (48 + d) (omega arith)) (le-leb (48 + d) 126 (omega (arith, h.0))))
    (digits_letters ds h.1)

digits_word : (ds : List ℕ) → 0 < get_or ds 0 0 → AllBelowBase 10 ds → is_word (digit_bytes ds) ≡ true
digits_word [] some h = absurd (omega arith)
digits_word (d ∷ ds) some h = digits_letters (d ∷ ds) h

-- a numeral is a word
pub numeral_word : (z : ℤ) → is_word (numeral z) ≡ true
numeral_word (pos zero) = refl
numeral_word (pos (suc n)) = digits_word (digits_of 10 (suc n)) (first_digits_of 10 (suc n) (omega arith) (omega arith))
    (all_below_base_digits_of 10 (suc n) (omega arith))
numeral_word (negsuc n) = digits_letters (digits_of 10 (suc n)) (all_below_base_digits_of 10 (suc n) (omega arith))

abbrev found : {A : Type 0} → A → Result A NumberFault
found x = Ok x

chosen : {A : Type 0} (b : Bool) (y x : A) (fault : NumberFault) → cond b (found y) (Err fault) ≡ found x → (b ≡ true) × (y ≡ x)
chosen true y x fault e = (refl, cc)
chosen false y x fault e = absurd cc

-- an answer that has to pass a test is what was given, and passes it
pub ranged_ok : {A : Type 0} (test : A → Bool) (o : Option A) (x : A) → ranged test o ≡ found x → (o ≡ Some x) × (test x ≡ true)
ranged_ok test None x e = absurd cc
ranged_ok {A} test (Some y) x e =
    let p = chosen (test y) y x Range e in
    (ap (λ (z : A). Some z) p.1, subst (λ (z : A). test z ≡ true) p.1 p.0)

-- what the test of a range says
pub between_gives : (low high z : ℤ) → is_between low high z ≡ true → IsBetween low high z
between_gives low high z h =
    let q = and_parts (int_le low z) (int_le z high) h in
    (grind (arith, ints, q.0), grind (arith, ints, q.1))

pub between_from : (low high z : ℤ) → IsBetween low high z → is_between low high z ≡ true
between_from low high z h =
    let a : int_le low z ≡ true = grind (arith, ints, h.0) in
    let b : int_le z high ≡ true = grind (arith, ints, h.1) in
    rw (a, b) refl

-- what is read as a number in a range is its numeral
pub number_taken : (low high : ℤ) (word : List ℕ) (z : ℤ) → number_in low high word ≡ Ok z → (word ≡ numeral z) × (low ≤ℤ z)
    × (z ≤ℤ high)
number_taken low high word z e =
    let p = ranged_ok (is_between low high) (number_of word) z e in
    let q = between_gives low high z p.1 in
    (spelled word z p.0, q.0, q.1)

-- the numeral of a number in a range is read as that number
pub number_again : (low high z : ℤ) → low ≤ℤ z → z ≤ℤ high → number_in low high (numeral z) ≡ Ok z
number_again low high z least most = rw (read_again z, between_from low high z (least, most)) refl

-- a word is read as a number in a range exactly where it is its numeral and the range holds it
pub number_exact : (low high z : ℤ) (word : List ℕ)
    → (number_in low high word ≡ Ok z) ↔ ((word ≡ numeral z) × (low ≤ℤ z) × (z ≤ℤ high))
number_exact low high z word = (number_taken low high word z, λ p. ap (number_in low high) p.0 ∙ number_again low high z p.1 p.2)
