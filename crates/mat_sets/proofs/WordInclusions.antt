-- One set of bits lies inside another where no word has a bit that the other's word at its place has not: a word of which something is
-- left has a number that stands in the first set alone.
use Rattle.mat_sets.proofs.Common.{◌≡◌, ℕ, ◌+◌, ◌-◌, ◌*◌, ◌/◌, ◌%◌, ◌^◌, ◌<◌, ◌≤◌, true, false, eqb, min, List, length, get_or, bit_and, w64, inl, inr, ap, sym, ◌∙◌, arith, both_ways, cases_lt, eq-eqb, eqb-true, ne_eqb, and_le_r, bits_of, has_bit, is_member, IsSubset}
use Rattle.std.specs.Int.{bit_at, bit_not, trailing_zeros}
use Rattle.std.proofs.lemmas.Nat.Bits.{bit_at-lt, bit_at-trailing_zeros, bit_at-zero, bit_at_and, bit_at_not}
use Rattle.mat_sets.proofs.Bits.{has_bit_past, is_member-bits_of, IsRising-bits_of}

-- ---- word by word

-- what the word at a place has that the other has not
abbrev pub word_left : List ℕ → List ℕ → ℕ → ℕ
word_left a b at = bit_and (get_or a at 0) (bit_not w64 (get_or b at 0))

-- the numbers of the words before a place lie inside
pub record AreInside (a b : List ℕ) (at : ℕ) : Type 0 where
  pub inside : (x : ℕ) → x / 64 < at → is_member x (bits_of a) ≡ true → is_member x (bits_of b) ≡ true

member_is : (words : List ℕ) (x : ℕ) → is_member x (bits_of words) ≡ eqb (bit_at (get_or words (x / 64) 0) (x % 64)) 1
unfolding has_bit
member_is words x = is_member-bits_of x words

bit_left : (a b : List ℕ) (at i : ℕ) → get_or b at 0 < 2 ^ 64 → i < 64
    → bit_at (word_left a b at) i ≡ min (bit_at (get_or a at 0) i) (1 - bit_at (get_or b at 0) i)
bit_left a b at i small l = bit_at_and (get_or a at 0) (bit_not w64 (get_or b at 0)) i
    ∙ ap (min (bit_at (get_or a at 0) i)) (bit_at_not w64 (get_or b at 0) i small l)

pub AreInside-none : (a b : List ℕ) → AreInside a b 0
AreInside-none a b = record { inside = λ x l h. absurd (omega arith) }

-- nothing is left of the next word
pub AreInside-more : (a b : List ℕ) (at : ℕ) → get_or b at 0 < 2 ^ 64 → word_left a b at ≡ 0 → AreInside a b at → AreInside a b (at + 1)
AreInside-more a b at small none so_far = record {
  inside = λ x l h. elim (cases_lt (x / 64) at) [
    | inl before ↦ so_far.inside x before h
    | inr here ↦ (
        let same : x / 64 ≡ at = omega arith in
        let one = rw same at (eqb-true (bit_at (get_or a (x / 64) 0) (x % 64)) 1 (sym (member_is a x) ∙ h)) in
        let left = sym (bit_left a b at (x % 64) small (omega arith)) ∙ ap (λ w. bit_at w (x % 64)) none ∙ bit_at-zero (x % 64) in
        let below = bit_at-lt (get_or b at 0) (x % 64) in
        member_is b x ∙ rw same (eq-eqb (bit_at (get_or b at 0) (x % 64)) 1 (omega arith)))
  ];
}

-- at the end all lie inside
pub IsSubset-from_words : (a b : List ℕ) (at : ℕ) → length a ≤ at → AreInside a b at → IsSubset (bits_of a) (bits_of b)
IsSubset-from_words a b at past so_far = record {
  inside = λ x h. elim (cases_lt (x / 64) at) [
    | inl before ↦ so_far.inside x before h
    | inr out ↦ absurd (both_ways (is_member x (bits_of a)) (is_member-bits_of x a ∙ has_bit_past a x (omega arith)) h)
  ];
}

-- something is left of a word
pub not-IsSubset_left : (a b : List ℕ) (at : ℕ) → get_or b at 0 < 2 ^ 64 → 0 < word_left a b at → IsSubset (bits_of a) (bits_of b) → ⊥
not-IsSubset_left a b at small some all =
    let less : word_left a b at < 2 ^ 64 = omega (arith, and_le_r (get_or a at 0) (bit_not w64 (get_or b at 0))) in
    let lowest = bit_at-trailing_zeros w64 (word_left a b at) some less in
    apart (trailing_zeros w64 (word_left a b at)) lowest.0 lowest.1
  where
    apart : (i : ℕ) → i < 64 → bit_at (word_left a b at) i ≡ 1 → ⊥
    apart i l one =
        let x = at * 64 + i in
        let word : x / 64 ≡ at = omega arith in
        let bit : x % 64 ≡ i = omega arith in
        let left = sym (bit_left a b at i small l) ∙ one in
        let below = bit_at-lt (get_or a at 0) i in
        let first : is_member x (bits_of a) ≡ true = member_is a x ∙ rw (word, bit) (eq-eqb (bit_at (get_or a at 0) i) 1 (omega arith)) in
        let second : is_member x (bits_of b) ≡ false = member_is b x ∙ rw (word, bit) (ne_eqb (bit_at (get_or b at 0) i) 1 (omega arith)) in
        both_ways (is_member x (bits_of b)) second (all.inside x first)

pub ruleset inclusions = (AreInside-none, AreInside-more, IsSubset-from_words, not-IsSubset_left, IsRising-bits_of)
