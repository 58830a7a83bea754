-- A short number as the first word of a line: its digits hold no space, and are its numeral where no `0` stands in front of others; and the
-- numerals of the numbers below 1000.
use Rattle.mat_words.proofs.Common.{◌≡◌, ◌≢◌, ℕ, zero, suc, ◌+◌, ◌-◌, ◌/◌, ◌%◌, ◌<◌, ◌≤◌, true, List, [], ◌∷◌, ◌++◌, length, get_or, take, drop, refl, ◌∙◌, arith, inl, inr, pos, neg_ℤ, and_from, le-leb, cases_eq, get_or-take, length-take, nil_from_length, take_rest, numeral, decimal, is_digit}
use Rattle.mat_words.proofs.Common.{value_of, parts_of}
use Rattle.std.specs.List.{list_all}
use Rattle.mat_words.proofs.DigitLemmas.{decimal_step}
use Rattle.mat_words.proofs.NumberLemmas.{digit_at, digits_back, numeral_pos}

-- no space stands among digits
pub digits_apart : (bytes : List ℕ) (count k : ℕ) → list_all is_digit (take count bytes) ≡ true → count ≤ length bytes → k < count
    → get_or bytes k 0 ≢ 32
digits_apart bytes count k digits within lt e =
    let inside : k < length (take count bytes) = omega (arith, length-take count bytes) in
    let here = (digit_at (take count bytes) k digits inside).0 in
    let same : get_or (take count bytes) k 0 ≡ get_or bytes k 0 = get_or-take count bytes k 0 lt in
    absurd (omega (arith, here, same, e))

-- digits are the numeral of what they stand for, unless they begin with a `0` before others
pub digits_numeral : (cs : List ℕ) → list_all is_digit cs ≡ true → 0 < length cs → (get_or cs 0 0 ≡ 48 → length cs ≤ 1)
    → numeral (pos (value_of cs)) ≡ cs
digits_numeral [] digits some alone = absurd (omega arith)
digits_numeral (c ∷ cs) digits some alone =
    elim (cases_eq c 48) [
      | inl e ↦
          let none : cs ≡ [] = nil_from_length cs (omega (arith, alone e)) in
          rw (e, none) refl
      | inr ne ↦
          let digit = digit_at (c ∷ cs) 0 digits (omega arith) in
          let first : 49 ≤ c = omega (arith, digit.0) in
          let back = digits_back (c ∷ cs) (and_from _ _ (le-leb 49 c first) digits) in
          numeral_pos (value_of (c ∷ cs)) back.1 ∙ back.0
    ]

-- a `-` before a numeral that isn't `0`
pub signed_parts : (line : List ℕ) (n : ℕ) (others : List (List ℕ)) → 0 < length line → get_or line 0 0 ≡ 45 → 0 < n
    → parts_of (take (length line - 1) (drop 1 line)) ≡ numeral (pos n) ∷ others → parts_of line ≡ numeral (neg_ℤ (pos n)) ∷ others
signed_parts [] n others some sign positive e = absurd (omega arith)
signed_parts (b ∷ bs) zero others some sign positive e = absurd (omega arith)
signed_parts (b ∷ bs) (suc n) others some sign positive e =
    let behind : parts_of bs ≡ numeral (pos (suc n)) ∷ others = rw take_rest at e in
    rw (sign, behind) refl

-- ---- numbers below 1000

-- a number above 0 has the digits of its tenth and its last digit
more_digits : (n : ℕ) → 0 < n → numeral (pos n) ≡ decimal (n / 10) ++ (48 + n % 10) ∷ []
more_digits n some = numeral_pos n some ∙ decimal_step n some

pub one_digit : (n : ℕ) → n < 10 → numeral (pos n) ≡ (48 + n % 10) ∷ []
one_digit zero few = refl
one_digit (suc n) few =
    let none : suc n / 10 ≡ 0 = omega arith in
    more_digits (suc n) (omega arith) ∙ rw none refl

pub two_digits : (n : ℕ) → 10 ≤ n → n < 100 → numeral (pos n) ≡ (48 + n / 10 % 10) ∷ (48 + n % 10) ∷ []
two_digits n many few =
    let none : n / 10 / 10 ≡ 0 = omega arith in
    more_digits n (omega arith) ∙ rw (decimal_step (n / 10) (omega arith), none) refl

pub three_digits : (n : ℕ) → 100 ≤ n → n < 1000 → numeral (pos n) ≡ (48 + n / 100) ∷ (48 + n / 10 % 10) ∷ (48 + n % 10) ∷ []
three_digits n many few =
    let tens : n / 10 / 10 ≡ n / 100 = omega arith in
    let none : n / 100 / 10 ≡ 0 = omega arith in
    let last : n / 100 % 10 ≡ n / 100 = omega arith in
    more_digits n (omega arith) ∙ rw (decimal_step (n / 10) (omega arith), tens, decimal_step (n / 100) (omega arith), none, last) refl
