-- Words of binary digits: the last d digits of a number below 2 ^ d spell it, and a word of d digits has those of the number that it
-- spells. Both are told of digits that stand behind others, whose number is doubled at each digit.
use Rattle.mat_words.proofs.Common.{◌≡◌, ℕ, zero, suc, ◌+◌, ◌-◌, ◌*◌, ◌%◌, ◌^◌, ◌<◌, ◌≤◌, Bool, true, false, ◌&&◌, ◌||◌, eqb, refl, sym, ap, ap₂, ◌∙◌, arith, List, [], ◌∷◌, ◌++◌, length, take, drop, get_or, Ok, eqb-true, eq-eqb, and_from, and_parts, append_assoc, append-nil, length-append, take_at}
use Rattle.mat_words.proofs.Common.{take-append-le, at_drop_more, at_drop_all, bit_at-lt, bit_at_lowest, bit_at_cat_high, is_letter, is_word, Spelling, binary, is_binary, binary_value, binary_in, WordsLeft, binary_at}
use Rattle.std.specs.Int.{bit_at}
use Rattle.std.specs.List.{list_all}
use Rattle.std.proofs.Math.Nat.{add-mul, mul_assoc, mul_comm, mod-eq_of_lt, pow-succ', pow-le-pow_right}
use Rattle.std.proofs.lemmas.Nat.{mod-pow-add, mod_below}
use Rattle.mat_words.proofs.ReadingSteps.{found-same, test_found}
use Rattle.mat_words.proofs.WordReading.{item_found, item_again}

-- ---- the digits of a number

pub length-binary : (d z : ℕ) → length (binary d z) ≡ d
length-binary zero z = refl
length-binary (suc d) z = ap suc (length-binary d z)

digit_known : (b : ℕ) → b < 2 → (eqb (48 + b) 48 || eqb (48 + b) 49) ≡ true
digit_known (suc (suc b)) h = absurd (omega arith)
digit_known _ h = refl

digit_letter : (b : ℕ) → b < 2 → is_letter (48 + b) ≡ true
digit_letter (suc (suc b)) h = absurd (omega arith)
digit_letter _ h = refl

pub is_binary-binary : (d z : ℕ) → is_binary (binary d z) ≡ true
is_binary-binary zero z = refl
is_binary-binary (suc d) z = and_from _ (is_binary (binary d z)) (digit_known (bit_at z d) (bit_at-lt z d)) (is_binary-binary d z)

letters : (d z : ℕ) → list_all is_letter (binary d z) ≡ true
letters zero z = refl
letters (suc d) z = and_from (is_letter (48 + bit_at z d)) (list_all is_letter (binary d z)) (digit_letter (bit_at z d) (bit_at-lt z d)) (letters d z)

pub binary_word : (d z : ℕ) → 1 ≤ d → is_word (binary d z) ≡ true
binary_word zero z some = absurd (omega arith)
binary_word (suc d) z some = letters (suc d) z

-- ---- what digits spell

doubled : (y power : ℕ) → 2 * y * power ≡ y * (2 * power)
doubled y power = ap (λ t. t * power) (mul_comm 2 y) ∙ mul_assoc y 2 power

-- one more digit in front of those of m, with y before them
carried : (y b power m : ℕ) → (2 * y + ((48 + b) - 48)) * power + m ≡ y * (2 * power) + (b * power + m)
carried y b power m =
    let digit : (48 + b) - 48 ≡ b = omega arith in
    rw digit (omega (arith, add-mul (2 * y) b power, doubled y power))

binary_value-behind : (d z y : ℕ) → binary_value y (binary d z) ≡ y * 2 ^ d + z % 2 ^ d
binary_value-behind zero z y = omega (arith, mod_below z 1 (omega arith))
binary_value-behind (suc d) z y =
    let one_more : suc d ≡ 1 + d = omega arith in
    let split : z % 2 ^ suc d ≡ bit_at z d * 2 ^ d + z % 2 ^ d = ap (λ k. z % 2 ^ k) one_more ∙ mod-pow-add z 1 d in
    rw (split, pow-succ' 2 d) (binary_value-behind d z (2 * y + ((48 + bit_at z d) - 48)) ∙ carried y (bit_at z d) (2 ^ d) (z % 2 ^ d))

-- the digits of a number below 2 ^ d spell it
pub binary_value-binary : (d z : ℕ) → z < 2 ^ d → binary_value 0 (binary d z) ≡ z
binary_value-binary d z small = binary_value-behind d z 0 ∙ omega (arith, mod-eq_of_lt small)

-- ---- the digits of what a word spells

-- what a digit is worth
digit_small : (b : ℕ) → (eqb b 48 || eqb b 49) ≡ true → (b - 48 < 2) × (48 + (b - 48) ≡ b)
digit_small b known = from (eqb b 48) (eqb b 49) (eqb-true b 48) (eqb-true b 49) known
  where
    from : (p q : Bool) → (p ≡ true → b ≡ 48) → (q ≡ true → b ≡ 49) → (p || q) ≡ true → (b - 48 < 2) × (48 + (b - 48) ≡ b)
    from true q is_zero is_one h = (omega (arith, is_zero refl), omega (arith, is_zero refl))
    from false true is_zero is_one h = (omega (arith, is_one refl), omega (arith, is_one refl))
    from false false is_zero is_one h = absurd cc

-- a word behind a number, and how high it is
record IsSpelled (word : List ℕ) : Type 0 where
  below : binary_value 0 word < 2 ^ length word
  behind : (y : ℕ) → binary_value y word ≡ y * 2 ^ length word + binary_value 0 word
  digits : (y : ℕ) → binary (length word) (binary_value y word) ≡ word

word_spelled : (word : List ℕ) → is_binary word ≡ true → IsSpelled word
word_spelled [] known = record { below = omega arith; behind = λ y. omega arith; digits = λ y. refl }
word_spelled (b ∷ word) known =
    let parts = and_parts (eqb b 48 || eqb b 49) (is_binary word) known in
    let digit = digit_small b parts.0 in
    let rest = word_spelled word parts.1 in
    let low = binary_value 0 word in
    let power : 2 ^ suc (length word) ≡ 2 * 2 ^ length word = pow-succ' 2 (length word) in
    record {
      below = first_below (b - 48) (2 ^ length word) (2 ^ suc (length word)) low (binary_value (2 * 0 + (b - 48)) word) digit.0 rest.below
          power (rest.behind (2 * 0 + (b - 48)));
      behind = λ y.
          first_behind y (b - 48) (2 ^ length word) (2 ^ suc (length word)) low (binary_value (2 * y + (b - 48)) word)
          (binary_value (2 * 0 + (b - 48)) word)
          power (rest.behind (2 * y + (b - 48))) (rest.behind (2 * 0 + (b - 48)));
      digits = λ y.
          let here : bit_at (binary_value (2 * y + (b - 48)) word) (length word) ≡ b - 48 =
          ap (λ z. bit_at z (length word)) (rest.behind (2 * y + (b - 48))) ∙ first_digit y (b - 48) (length word) low digit.0 rest.below in
          ap₂ (λ (a : ℕ) (t : List ℕ). a ∷ t) (ap (λ a. 48 + a) here ∙ digit.1) (rest.digits (2 * y + (b - 48)));
    }
  where
    -- the digit in front is c, behind the digits of y, and its place is worth the power; double is what the place before it is worth
    first_below : (c power double low value : ℕ) → c < 2 → low < power → double ≡ 2 * power → value ≡ (2 * 0 + c) * power + low
        → value < double
    first_below zero power double low value h lt twice e = omega arith
    first_below (suc zero) power double low value h lt twice e = omega arith
    first_below (suc (suc c)) power double low value h lt twice e = absurd (omega arith)

    first_behind : (y c power double low all own : ℕ) → double ≡ 2 * power → all ≡ (2 * y + c) * power + low
        → own ≡ (2 * 0 + c) * power + low → all ≡ y * double + own
    first_behind y c power double low all own twice e f =
        let alone : (2 * 0 + c) * power ≡ c * power = ap (λ t. t * power) (omega arith) in
        rw twice (omega (arith, add-mul (2 * y) c power, doubled y power, alone, e, f))

    first_digit : (y c k low : ℕ) → c < 2 → low < 2 ^ k → bit_at ((2 * y + c) * 2 ^ k + low) k ≡ c
    first_digit y c k low h lt = bit_at_cat_high (2 * y + c) k low k lt (omega arith) ∙ rw k_from_itself (bit_at_lowest (2 * y + c) ∙ lowest)
      where
        k_from_itself : k - k ≡ 0
        k_from_itself = omega arith

        lowest : (2 * y + c) % 2 ≡ c
        lowest = omega arith

-- a word of d digits has the digits of the number that it spells
pub binary-binary_value : (d : ℕ) (word : List ℕ) → length word ≡ d → is_binary word ≡ true
    → (binary d (binary_value 0 word) ≡ word) × (binary_value 0 word < 2 ^ d)
binary-binary_value d word long known =
    let spelled = word_spelled word known in
    (ap (λ k. binary k (binary_value 0 word)) (sym long) ∙ spelled.digits 0, rw (← long) spelled.below)

-- ---- reading a word of digits

-- a word was read as a binary number of d digits
pub record IsBinaryRead (d : ℕ) (w : WordsLeft) (z : ℕ) (q : WordsLeft) : Type 0 where
  pub cut : w.words ≡ binary d z ∷ q.words
  pub below : z < 2 ^ d

-- a word that says a number of d digits has the digits of that number
binary_taken : (d : ℕ) (word : List ℕ) (z : ℕ) → binary_in d word ≡ Ok z → (word ≡ binary d z) × (z < 2 ^ d)
binary_taken d word z e =
    let test = test_found (eqb (length word) d && is_binary word) Spelling (Ok (binary_value 0 word)) z e in
    let value = found-same (binary_value 0 word) z test.1 in
    let parts = and_parts (eqb (length word) d) (is_binary word) test.0 in
    let laws = binary-binary_value d word (eqb-true (length word) d parts.0) parts.1 in
    (sym laws.0 ∙ ap (binary d) value, rw (← value) laws.1)

pub binary_found : (d : ℕ) (w : WordsLeft) (z : ℕ) (q : WordsLeft) → binary_at d w ≡ Ok (z, q) → IsBinaryRead d w z q
unfolding binary_at
binary_found d w z q e =
    let word = item_found (binary_in d) w z q e in
    let taken = binary_taken d word.word z word.read in
    record { cut = word.cut ∙ rw taken.0 refl; below = taken.1 }

-- the digits of a number say it
binary_said : (d z : ℕ) → z < 2 ^ d → binary_in d (binary d z) ≡ Ok z
binary_said d z below =
    let test : (eqb (length (binary d z)) d && is_binary (binary d z)) ≡ true =
    and_from _ _ (eq-eqb _ _ (length-binary d z)) (is_binary-binary d z) in
    rw (test, binary_value-binary d z below) refl

pub binary_again : (d n z : ℕ) (words : List (List ℕ)) → z < 2 ^ d
    → binary_at d (record { line = n; words = binary d z ∷ words }) ≡ Ok (z, record { line = n; words = words })
unfolding binary_at
binary_again d n z words below = item_again (binary_in d) n (binary d z) z words (binary_said d z below)

-- ---- digit by digit, as a loop reads and writes them

-- the digits from place i on are digits as far as the word's are, and behind the number so far they spell what the word spells
pub record IsReadSoFar (word : List ℕ) (i value : ℕ) : Type 0 where
  pub known : is_binary (drop i word) ≡ is_binary word
  pub spelled : binary_value value (drop i word) ≡ binary_value 0 word
  pub below : value < 2 ^ i

-- no digit was read
pub read_none : (word : List ℕ) → IsReadSoFar word 0 0
read_none word = record { known = refl; spelled = refl; below = omega arith }

-- one more digit was read
pub read_more : (word : List ℕ) (i value : ℕ) → i < length word → (eqb (get_or word i 0) 48 || eqb (get_or word i 0) 49) ≡ true
    → IsReadSoFar word i value → IsReadSoFar word (i + 1) (2 * value + (get_or word i 0 - 48))
read_more word i value lt digit so_far =
    let power : 2 ^ (i + 1) ≡ 2 * 2 ^ i = ap (λ k. 2 ^ k) (omega arith) ∙ pow-succ' 2 i in
    record {
      known = sym (at_drop_more is_binary word i 0 lt ∙ ap (λ (t : Bool). t && is_binary (drop (i + 1) word)) digit) ∙ so_far.known;
      spelled = sym (at_drop_more (binary_value value) word i 0 lt) ∙ so_far.spelled;
      below = omega (arith, (digit_small (get_or word i 0) digit).0, power, so_far.below);
    }

-- a byte that is no digit
pub read_refused : (word : List ℕ) (i value : ℕ) → i < length word → (eqb (get_or word i 0) 48 || eqb (get_or word i 0) 49) ≡ false
    → IsReadSoFar word i value → is_binary word ≡ false
read_refused word i value lt refused so_far =
    sym so_far.known ∙ at_drop_more is_binary word i 0 lt ∙ ap (λ (t : Bool). t && is_binary (drop (i + 1) word)) refused

-- all digits were read
pub read_done : (word : List ℕ) (i value : ℕ) → length word ≤ i → IsReadSoFar word i value
    → (is_binary word ≡ true) × (value ≡ binary_value 0 word)
read_done word i value done so_far =
    (sym so_far.known ∙ at_drop_all is_binary word i done, sym (at_drop_all (binary_value value) word i done) ∙ so_far.spelled)

-- the number so far has room for one more digit
pub digit_fits : (i value b : ℕ) → i < 128 → value < 2 ^ i → (eqb b 48 || eqb b 49) ≡ true → 2 * value + (b - 48) < 2 ^ 128
digit_fits i value b lt below digit =
    let room : 2 ^ i ≤ 2 ^ 127 = pow-le-pow_right {n = 2} (omega arith) {i = i} {j = 127} (omega arith) in
    omega (arith, room, (digit_small b digit).0)

-- one more digit was written
pub digit_written : (out : List ℕ) (place z : ℕ) (total : List ℕ) → 0 < place → out ++ binary place z ≡ total
    → (out ++ (48 + bit_at z (place - 1)) ∷ []) ++ binary (place - 1) z ≡ total
digit_written out zero z total some so_far = absurd (omega arith)
digit_written out (suc place) z total some so_far =
    let before : suc place - 1 ≡ place = omega arith in
    rw before (append_assoc out ((48 + bit_at z place) ∷ []) (binary place z) ∙ so_far)

-- all digits were written
pub digits_written : (out : List ℕ) (place z : ℕ) (total : List ℕ) → place ≤ 0 → out ++ binary place z ≡ total → out ≡ total
digits_written out zero z total done so_far = sym (append-nil out) ∙ so_far
digits_written out (suc place) z total done so_far = absurd (omega arith)

-- where the next digit was not written, what stood there before the digits is still in front
pub front_of_digits : (old out new : List ℕ) (place digits z : ℕ) → place ≤ digits → new ≡ out
    → out ++ binary place z ≡ old ++ binary digits z → take (length old) new ≡ old
front_of_digits old out new place digits z within same so_far =
    let counted : length out + place ≡ length old + digits =
    omega (arith, ap length so_far, length-append out (binary place z), length-append old (binary digits z), length-binary place z, length-binary digits z) in
    let longer : length old ≤ length out = omega arith in
    ap (λ (t : List ℕ). take (length old) t) same ∙ sym (take-append-le (length old) out (binary place z) longer)
    ∙ ap (λ (t : List ℕ). take (length old) t) so_far ∙ take_at old (binary digits z) (length old) refl
