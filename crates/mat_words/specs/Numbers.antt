-- Numbers as words.
use Rattle.std.specs.Prelude.{ℕ, zero, suc, ◌-◌, ◌+◌, ◌^◌, Bool, false, ◌&&◌, ◌==◌, nat_le, if◌then◌else◌, List}
use Rattle.std.specs.Prelude.{[], ◌∷◌, length, map, Option, Some, None, Result, Ok, Err, ℤ, pos, negsuc, neg_ℤ, int_le, ◌≤ℤ◌}
use Rattle.std.specs.List.{list_all}
use Rattle.std.specs.Int.Digits.{digits_of, number_from_digits}
use Rattle.mat_words.specs.Lines.{Line}
use Rattle.mat_words.specs.declared.numbers.NumberFault.{NumberFault}
use Rattle.mat_words.specs.declared.numbers.NumberFault.TheVariants.{Spelling, Range}

-- the decimal digits of a number as bytes, the highest first, and none for 0
abbrev pub decimal : ℕ → List ℕ
decimal n = map (λ d. 48 + d) (digits_of 10 n)

-- the one spelling of a number: `0`, or digits of which the first isn't `0`, or such digits behind a `-`
abbrev pub numeral : ℤ → List ℕ
numeral (pos zero) = 48 ∷ []
numeral (pos (suc n)) = decimal (suc n)
numeral (negsuc n) = 45 ∷ decimal (suc n)

-- the numerals of numbers from 0 on, as the words of a line
abbrev pub numerals : List ℕ → Line
numerals xs = map (λ x. numeral (pos x)) xs

-- whether a byte is a digit
abbrev pub is_digit : ℕ → Bool
is_digit c = nat_le 48 c && nat_le c 57

-- whether a word is a digit from `1` to `9` followed by any digits
abbrev pub is_counting : List ℕ → Bool
is_counting [] = false
is_counting (c ∷ cs) = nat_le 49 c && list_all is_digit (c ∷ cs)

-- what digits stand for
abbrev pub value_of : List ℕ → ℕ
value_of cs = number_from_digits 10 (map (λ c. c - 48) cs)

-- The number that a word spells, if it is one: `0`, or a digit from `1` to `9` followed by any digits, or such a word with one `-` before it.
abbrev pub number_of : List ℕ → Option ℤ
number_of [] = None
number_of (c ∷ cs) = if c == 45 then (if is_counting cs then Some (neg_ℤ (pos (value_of cs))) else None)
    else (if c == 48 then (if length cs == 0 then Some (pos 0) else None)
    else (if is_counting (c ∷ cs) then Some (pos (value_of (c ∷ cs))) else None))

-- the number is in low..high
abbrev pub IsBetween : ℤ → ℤ → ℤ → Type 0
IsBetween low high z = (low ≤ℤ z) × (z ≤ℤ high)

-- whether the number is in low..high
abbrev pub is_between : ℤ → ℤ → ℤ → Bool
is_between low high z = int_le low z && int_le z high

-- what a word spells, where it has to pass the test of a range: a fault of range where it fails, and of spelling where the word spells nothing
abbrev pub ranged : {A : Type 0} → (A → Bool) → Option A → Result A NumberFault
ranged test None = Err Spelling
ranged test (Some x) = if test x then Ok x else Err Range

-- a number where one in low..high is needed
abbrev pub in_range : ℤ → ℤ → Option ℤ → Result ℤ NumberFault
in_range low high o = ranged (is_between low high) o

-- what a word says where a number in low..high is needed
abbrev pub number_in : ℤ → ℤ → List ℕ → Result ℤ NumberFault
number_in low high word = in_range low high (number_of word)

-- 2 ^ 127 + 1: no i128 has an absolute value so large
abbrev pub magnitude_bound : ℕ
magnitude_bound = 2 ^ 127 + 1
