-- A letter with each number below n: these are names, since numbers that differ have numerals that differ, and short ones where they are small.
use Rattle.mat_desc.proofs.Common.{◌≡◌, ℕ, zero, suc, ◌+◌, ◌<◌, ◌≤◌, ◌^◌, true, List, [], ◌∷◌, ◌++◌, length, get_or, pos, Some, sym, ap, ◌∙◌, arith, nat_le, and_from, le-leb, get_or-map, length-map, All-from_get_or, all_below, get_or-all_below, length-all_below, numeral, number_of, is_letter}
use Rattle.mat_desc.proofs.Common.{is_word, longest_name, is_name, AreNames, read_again, numeral_word, numbered}
use Rattle.std.specs.List.{list_all}
use Rattle.std.specs.Int.Digits.{digits_of}
use Rattle.std.proofs.lemmas.Int.Digits.{length-digits_of-le}
use Rattle.mat_words.proofs.WordLemmas.{word_letters}

some_number : (x y : ℕ) → Some (pos x) ≡ Some (pos y) → x ≡ y
some_number x y e = cc

-- a number has one numeral
pub numeral-same : (x y : ℕ) → numeral (pos x) ≡ numeral (pos y) → x ≡ y
numeral-same x y e = some_number x y (sym (read_again (pos x)) ∙ ap number_of e ∙ read_again (pos y))

-- a number below 2 ^ 32 has at most ten digits
pub numeral-short : (x : ℕ) → x < 2 ^ 32 → length (numeral (pos x)) ≤ 10
numeral-short zero small = omega arith
numeral-short (suc x) small =
    let digits : length (digits_of 10 (suc x)) ≤ 10 = length-digits_of-le 10 10 (suc x) (omega arith) (omega (arith, small)) in
    omega (arith, length-map (digits_of 10 (suc x)) (λ d. 48 + d), digits)

-- a letter in front of a number below 2 ^ 32 is a name
pub is_name-numbered : (letter x : ℕ) → is_letter letter ≡ true → x < 2 ^ 32 → is_name (letter ∷ numeral (pos x)) ≡ true
is_name-numbered letter x good small =
    and_from (is_word (letter ∷ numeral (pos x))) (nat_le (length (letter ∷ numeral (pos x))) longest_name)
    (and_from (is_letter letter) (list_all is_letter (numeral (pos x))) good (word_letters (numeral (pos x)) (numeral_word (pos x))))
    (le-leb (length (letter ∷ numeral (pos x))) longest_name (omega (arith, numeral-short x small)))

-- as many names as numbers
pub length-numbered : (letter : List ℕ) (n : ℕ) → length (numbered letter n) ≡ n
length-numbered letter n = length-map (all_below n) (λ i. letter ++ numeral (pos i)) ∙ length-all_below n

-- the name of a number
pub get_or-numbered : (letter n i : ℕ) → i < n → get_or (numbered (letter ∷ []) n) i [] ≡ letter ∷ numeral (pos i)
get_or-numbered letter n i lt =
    get_or-map (λ i. (letter ∷ []) ++ numeral (pos i)) (all_below n) i 0 [] (omega (arith, length-all_below n, lt))
    ∙ ap (λ (x : ℕ). letter ∷ numeral (pos x)) (get_or-all_below n i 0 lt)

same_tail : (a b : ℕ) (xs ys : List ℕ) → a ∷ xs ≡ b ∷ ys → xs ≡ ys
same_tail a b xs ys e = cc

-- a letter with each number below n
pub AreNames-numbered : (letter : ℕ) (n : ℕ) → is_letter letter ≡ true → n < 2 ^ 32 → AreNames (numbered (letter ∷ []) n)
AreNames-numbered letter n good few =
    let many : length (numbered (letter ∷ []) n) ≡ n = length-numbered (letter ∷ []) n in
    record {
      each = All-from_get_or (λ name. is_name name ≡ true) (numbered (letter ∷ []) n) []
          (λ i lt. ap is_name (get_or-numbered letter n i (omega (arith, many, lt)))
          ∙ is_name-numbered letter i good (omega (arith, many, lt, few)));
      different = λ i j before within same.
          let below : j < n = omega (arith, many, within) in
          let equal : i ≡ j = numeral-same i j (same_tail letter letter (numeral (pos i)) (numeral (pos j))
          (sym (get_or-numbered letter n i (omega (arith, before, below))) ∙ same ∙ get_or-numbered letter n j below)) in
          absurd (omega (arith, equal, before));
      few = omega (arith, many, few);
    }
