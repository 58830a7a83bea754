-- Words of 64 bits seen as sets: a number is a member exactly where its bit is set, so each change of a word is proved
-- bit by bit, and two lists of words with the same bits are one set.
use Rattle.mat_sets.proofs.Common.{List, [], ap, arith, bit_and, bit_or, cond, eqb, false, get_or, inl, inr, length, ltb, max, min, not, refl, replicate, set, subst, suc, sym, w64, zero, ℕ, ◌+◌, ◌&&◌, ◌++◌, ◌-◌, ◌*◌, ◌/◌, ◌%◌, ◌^◌, ◌<◌, ◌||◌, ◌∙◌, ◌∷◌, ◌≡◌, ◌≤◌, and_right, cases_eq, cases_lt}
use Rattle.mat_sets.proofs.Common.{cond-false, cond-true, eq-eqb, le-ltb, lt-ltb, ne_eqb, get_or-append_right, get_or_append_left, get_or-replicate, get_or-set_other, get_or-set_same, get_or_past, get_or_read, length-replicate, bits_of, has_bit, IsRising, all_below, is_member, with_one, without_one}
use Rattle.std.specs.Int.{bit_at, bit_not}
use Rattle.std.specs.Int.Bits.{or_zero_r}
use Rattle.std.proofs.lemmas.Nat.Bits.{bit_at-lt, bit_at-zero, bit_at_and, bit_at_not, bit_at_or, bit_at_clear_other, bit_at_clear_same, bit_at_ones, bit_at_ones_above, bit_at_set_other, bit_at_set_same, shr_and_one}
use Rattle.mat_sets.proofs.Ground.{IsRising-all_below, is_member-all_below}
use Rattle.mat_sets.proofs.Members.{IsRising-nil, IsRising-with_one, IsRising-without_one, is_member-with_one, is_member-without_one, same_members, without_one-missing}
use Rattle.mat_sets.proofs.Search.{IsSet-those_below, is_member-those_below}
use Rattle.mat_sets.proofs.Truths.{and_all, ltb-other}

-- ---- the members

has_bit_is : (words : List ℕ) (x : ℕ) → has_bit words x ≡ eqb (bit_at (get_or words (x / 64) 0) (x % 64)) 1
unfolding has_bit
has_bit_is words x = refl

pub has_bit_past : (words : List ℕ) (x : ℕ) → length words ≤ x / 64 → has_bit words x ≡ false
has_bit_past words x h = rw (has_bit_is words x, get_or_past words (x / 64) 0 h, bit_at-zero (x % 64))

pub is_member-bits_of : (x : ℕ) (words : List ℕ) → is_member x (bits_of words) ≡ has_bit words x
unfolding bits_of
is_member-bits_of x words = is_member-those_below x (64 * length words) (has_bit words) ∙ elim (cases_lt x (64 * length words)) [
  | inl l ↦ ap (λ b. b && has_bit words x) (lt-ltb x (64 * length words) l)
  | inr h ↦ ap (λ b. b && has_bit words x) (le-ltb x (64 * length words) h) ∙ sym (has_bit_past words x (omega arith))
]

pub IsRising-bits_of : (words : List ℕ) → IsRising (bits_of words)
unfolding bits_of
IsRising-bits_of words = (IsSet-those_below (64 * length words) (has_bit words)).rising

pub bits_of-same : (words a : List ℕ) → IsRising a → ((x : ℕ) → has_bit words x ≡ is_member x a) → bits_of words ≡ a
bits_of-same words a r h = same_members _ _ (IsRising-bits_of words) r (λ x. is_member-bits_of x words ∙ h x)

-- ---- no bits, and more words without bits

pub bits_of-none : (words : List ℕ) → ((i : ℕ) → get_or words i 0 ≡ 0) → bits_of words ≡ []
bits_of-none words h = bits_of-same words [] IsRising-nil (λ x. has_bit_is words x ∙ rw (h (x / 64), bit_at-zero (x % 64)))

abbrev zeros : ℕ → List ℕ
zeros n = replicate n 0

get_or-zeros : (n i : ℕ) → get_or (zeros n) i 0 ≡ 0
get_or-zeros n i = elim (cases_lt i n) [
  | inl l ↦ get_or-replicate n i 0 0 l
  | inr h ↦ let e : length (zeros n) ≡ n = length-replicate n 0 in get_or_past (zeros n) i 0 (omega arith)
]

pub bits_of-zeros : (n : ℕ) → bits_of (replicate n 0) ≡ []
bits_of-zeros n = bits_of-none (zeros n) (get_or-zeros n)

get_or-longer : (words : List ℕ) (n i : ℕ) → get_or (words ++ replicate n 0) i 0 ≡ get_or words i 0
get_or-longer words n i = elim (cases_lt i (length words)) [
  | inl l ↦ get_or_append_left words (replicate n 0) 0 i l
  | inr h ↦ get_or-append_right words (replicate n 0) (length words) i 0 refl h ∙ get_or-zeros n (i - length words) ∙ sym (get_or_past words i 0 h)
]

pub bits_of-longer : (words : List ℕ) (n : ℕ) → bits_of (words ++ replicate n 0) ≡ bits_of words
bits_of-longer words n = bits_of-same _ _ (IsRising-bits_of words)
    (λ x. has_bit_is (words ++ replicate n 0) x ∙ rw (get_or-longer words n (x / 64)) (sym (has_bit_is words x)) ∙ sym (is_member-bits_of x words))

-- ---- a change of one word

has_bit-set_here : (words : List ℕ) (at word x : ℕ) → at < length words → x / 64 ≡ at
    → has_bit (set words at word) x ≡ eqb (bit_at word (x % 64)) 1
has_bit-set_here words at word x l e = has_bit_is (set words at word) x ∙ rw (e, get_or-set_same words at word 0 l)

has_bit-set_other : (words : List ℕ) (at word x : ℕ) → (x / 64 ≡ at → ⊥) → has_bit (set words at word) x ≡ has_bit words x
has_bit-set_other words at word x n = has_bit_is (set words at word) x ∙ rw (get_or-set_other words at (x / 64) word 0 n) (sym (has_bit_is words x))

-- the other bits of the word stay
same_bit : (words : List ℕ) (at word x : ℕ) → at < length words → x / 64 ≡ at
    → bit_at word (x % 64) ≡ bit_at (get_or words at 0) (x % 64) → has_bit (set words at word) x ≡ has_bit words x
same_bit words at word x l e b = has_bit-set_here words at word x l e ∙ rw b (ap (λ i. eqb (bit_at (get_or words i 0) (x % 64)) 1) (sym e))
    ∙ sym (has_bit_is words x)

has_bit-put : (words : List ℕ) (x k : ℕ) → x / 64 < length words
    → has_bit (set words (x / 64) (bit_or (get_or words (x / 64) 0) (1 * 2 ^ (x % 64) % 2 ^ 64))) k ≡ (eqb k x || has_bit words k)
has_bit-put words x k l =
    let old = get_or words (x / 64) 0 in
    let new = bit_or old (1 * 2 ^ (x % 64) % 2 ^ 64) in
    let small : x % 64 < 64 = omega arith in
    elim (cases_eq (k / 64) (x / 64)) [
      | inl e ↦ elim (cases_eq (k % 64) (x % 64)) [
        | inl f ↦ has_bit-set_here words (x / 64) new k l e ∙ rw (f, bit_at_set_same w64 old (x % 64) small, eq-eqb k x (omega arith))
        | inr d ↦ same_bit words (x / 64) new k l e (bit_at_set_other w64 old (x % 64) small (k % 64) d) ∙ rw (ne_eqb k x (omega arith))
      ]
      | inr d ↦ has_bit-set_other words (x / 64) new k d ∙ rw (ne_eqb k x (omega arith))
    ]

has_bit-cut : (words : List ℕ) (x k : ℕ) → x / 64 < length words
    → has_bit (set words (x / 64) (bit_and (get_or words (x / 64) 0) (bit_not w64 (1 * 2 ^ (x % 64) % 2 ^ 64)))) k ≡
    (has_bit words k && not (eqb k x))
has_bit-cut words x k l =
    let old = get_or words (x / 64) 0 in
    let new = bit_and old (bit_not w64 (1 * 2 ^ (x % 64) % 2 ^ 64)) in
    let small : x % 64 < 64 = omega arith in
    let other : (k ≡ x → ⊥) → has_bit words k ≡ (has_bit words k && not (eqb k x)) = λ d. rw (ne_eqb k x d) (sym (and_all (has_bit words k))) in
    elim (cases_eq (k / 64) (x / 64)) [
      | inl e ↦ elim (cases_eq (k % 64) (x % 64)) [
        | inl f ↦ has_bit-set_here words (x / 64) new k l e ∙ rw (f, bit_at_clear_same w64 old (x % 64) small, eq-eqb k x (omega arith))
            (sym (and_right (has_bit words k) false refl))
        | inr d ↦ same_bit words (x / 64) new k l e (bit_at_clear_other w64 old (x % 64) small (k % 64) (omega arith) d) ∙ other (omega arith)
      ]
      | inr d ↦ has_bit-set_other words (x / 64) new k d ∙ other (omega arith)
    ]

pub bits_of-put : (words : List ℕ) (x word : ℕ) → x / 64 < length words → word ≡ get_or words (x / 64) word
    → bits_of (set words (x / 64) (bit_or word (1 * 2 ^ (x % 64) % 2 ^ 64))) ≡ with_one (bits_of words) x
bits_of-put words x word l e = rw (get_or_read words (x / 64) word l e 0) (bits_of-same _ _ (IsRising-with_one _ x (IsRising-bits_of words))
    (λ k. has_bit-put words x k l ∙ ap (λ b. eqb k x || b) (sym (is_member-bits_of k words)) ∙ sym (is_member-with_one k x (bits_of words))))

pub bits_of-cut : (words : List ℕ) (x word : ℕ) → x / 64 < length words → word ≡ get_or words (x / 64) word
    → bits_of (set words (x / 64) (bit_and word (bit_not w64 (1 * 2 ^ (x % 64) % 2 ^ 64)))) ≡ without_one (bits_of words) x
bits_of-cut words x word l e = rw (get_or_read words (x / 64) word l e 0) (bits_of-same _ _ (IsRising-without_one _ x (IsRising-bits_of words))
    (λ k. has_bit-cut words x k l ∙ ap (λ b. b && not (eqb k x)) (sym (is_member-bits_of k words)) ∙ sym (is_member-without_one k x (bits_of words))))

-- ---- all numbers below n

bit_of_ones : (n i : ℕ) → eqb (bit_at (2 ^ n - 1) i) 1 ≡ ltb i n
bit_of_ones n i = elim (cases_lt i n) [
  | inl l ↦ rw (bit_at_ones n i l, lt-ltb i n l)
  | inr h ↦ rw (bit_at_ones_above n i h, le-ltb i n h)
]

full_words : (n x : ℕ) → has_bit (replicate (n / 64) (2 ^ 64 - 1) ++ (2 ^ (n % 64) - 1) ∷ []) x ≡ ltb x n
full_words n x =
    let front = replicate (n / 64) (2 ^ 64 - 1) in
    let last = (2 ^ (n % 64) - 1) ∷ [] in
    let len : length front ≡ n / 64 = length-replicate (n / 64) (2 ^ 64 - 1) in
    has_bit_is (front ++ last) x ∙ elim (cases_lt (x / 64) (n / 64)) [
      | inl l ↦ rw (
        get_or_append_left front last 0 (x / 64) (omega arith),
        get_or-replicate (n / 64) (x / 64) (2 ^ 64 - 1) 0 l,
        bit_of_ones 64 (x % 64),
        lt-ltb (x % 64) 64 (omega arith),
        lt-ltb x n (omega arith),
      )
      | inr h ↦ elim (cases_eq (x / 64) (n / 64)) [
        | inl e ↦ rw (e, get_or-append_right front last (n / 64) (n / 64) 0 len (omega arith)) (at_last (n / 64 - n / 64) (omega arith) e)
        | inr d ↦ rw (
          get_or-append_right front last (n / 64) (x / 64) 0 len h,
          get_or_past last (x / 64 - n / 64) 0 (omega arith),
          bit_at-zero (x % 64),
          le-ltb x n (omega arith),
        )
      ]
    ]
  where
    at_last : (i : ℕ) → i ≡ 0 → x / 64 ≡ n / 64 → eqb (bit_at (get_or ((2 ^ (n % 64) - 1) ∷ []) i 0) (x % 64)) 1 ≡ ltb x n
    at_last i e same = rw (e, bit_of_ones (n % 64) (x % 64)) (elim (cases_lt x n) [
      | inl l ↦ rw (lt-ltb x n l, lt-ltb (x % 64) (n % 64) (omega arith))
      | inr h ↦ rw (le-ltb x n h, le-ltb (x % 64) (n % 64) (omega arith))
    ])

pub bits_of-full : (n : ℕ) → bits_of (replicate (n / 64) (2 ^ 64 - 1) ++ (2 ^ (n % 64) - 1) ∷ []) ≡ all_below n
bits_of-full n = bits_of-same _ _ (IsRising-all_below n) (λ x. full_words n x ∙ sym (is_member-all_below x n))

-- ---- one bit

pub read_bit : (words : List ℕ) (x word : ℕ) → x / 64 < length words → word ≡ get_or words (x / 64) word
    → eqb (bit_and (word / 2 ^ (x % 64)) 1) 1 ≡ is_member x (bits_of words)
read_bit words x word l e = rw (shr_and_one word (x % 64), get_or_read words (x / 64) word l e 0)
    (sym (is_member-bits_of x words ∙ has_bit_is words x))

pub missing_past : (words : List ℕ) (x : ℕ) → length words ≤ x / 64 → false ≡ is_member x (bits_of words)
missing_past words x h = sym (is_member-bits_of x words ∙ has_bit_past words x h)

-- a number of word `at` is a member where its bit is set in that word
pub is_member-at : (words : List ℕ) (at word i : ℕ) → at < length words → word ≡ get_or words at word → i < 64
    → is_member (at * 64 + i) (bits_of words) ≡ eqb (bit_at word i) 1
is_member-at words at word i l e small =
    let x = at * 64 + i in
    let here : x / 64 ≡ at = omega arith in
    let place : x % 64 ≡ i = omega arith in
    is_member-bits_of x words ∙ has_bit_is words x ∙ ap (λ k. eqb (bit_at (get_or words k 0) (x % 64)) 1) here
    ∙ ap (λ j. eqb (bit_at (get_or words at 0) j) 1) place ∙ ap (λ w. eqb (bit_at w i) 1) (sym (get_or_read words at word l e 0))

pub none_past : (words : List ℕ) (from : ℕ) → 64 * length words ≤ from → (x : ℕ) → from ≤ x → is_member x (bits_of words) ≡ false
none_past words from past x l = is_member-bits_of x words ∙ has_bit_past words x (omega arith)

-- nothing to clear past the last word
pub bits_of-cut_past : (words : List ℕ) (x : ℕ) → length words ≤ x / 64 → bits_of words ≡ without_one (bits_of words) x
bits_of-cut_past words x h = sym (without_one-missing (bits_of words) x (IsRising-bits_of words) (is_member-bits_of x words ∙ has_bit_past words x h))

-- ---- the words before a place are changed by others

-- the words before a place are changed by the others, and the rest are as they were
abbrev pub AreChanged : (ℕ → ℕ → ℕ) → List ℕ → List ℕ → ℕ → List ℕ → Type 0
AreChanged change old others at words =
    (i : ℕ) → get_or words i 0 ≡ cond (ltb i at) (change (get_or old i 0) (get_or others i 0)) (get_or old i 0)

pub changed_none : (change : ℕ → ℕ → ℕ) (old others : List ℕ) → AreChanged change old others 0 old
changed_none change old others i = sym (cond-false (ltb i 0) _ _ (le-ltb i 0 (omega arith)))

pub changed_next : (change : ℕ → ℕ → ℕ) (old others words : List ℕ) (at : ℕ) → at < length words → AreChanged change old others at words
    → AreChanged change old others (at + 1) (set words at (change (get_or words at 0) (get_or others at 0)))
changed_next change old others words at l h i = elim (cases_eq i at) [
  | inl s ↦ (let word = change (get_or words at 0) (get_or others at 0) in
      let here = h at ∙ cond-false (ltb at at) _ _ (le-ltb at at (omega arith)) in
      subst (λ k. get_or (set words at word) k 0 ≡ cond (ltb k (at + 1)) (change (get_or old k 0) (get_or others k 0)) (get_or old k 0)) (sym s)
      (get_or-set_same words at word 0 l ∙ ap (λ w. change w (get_or others at 0)) here
      ∙ sym (cond-true (ltb at (at + 1)) _ _ (lt-ltb at (at + 1) (omega arith)))))
  | inr d ↦ get_or-set_other words at i _ 0 d ∙ h i
      ∙ ap (λ b. cond b (change (get_or old i 0) (get_or others i 0)) (get_or old i 0)) (ltb-other i at d)
]

-- ---- all bits of other words

either_bit : (a b : ℕ) → a < 2 → b < 2 → eqb (max a b) 1 ≡ (eqb a 1 || eqb b 1)
either_bit zero (suc (suc b)) h k = absurd (omega arith)
either_bit (suc zero) (suc (suc b)) h k = absurd (omega arith)
either_bit (suc (suc a)) b h k = absurd (omega arith)
either_bit _ b h k = refl

-- the words before a place have the bits of the others too
abbrev pub AreUnited : List ℕ → List ℕ → ℕ → List ℕ → Type 0
AreUnited = AreChanged bit_or

pub united_all : (old others words : List ℕ) (at : ℕ) → length others ≤ at → AreUnited old others at words
    → (x : ℕ) → is_member x (bits_of words) ≡ (is_member x (bits_of old) || is_member x (bits_of others))
united_all old others words at past h x =
    is_member-bits_of x words ∙ has_bit_is words x ∙ ap (λ w. eqb (bit_at w (x % 64)) 1) (each (x / 64))
    ∙ ap (λ b. eqb b 1) (bit_at_or (get_or old (x / 64) 0) (get_or others (x / 64) 0) (x % 64))
    ∙ either_bit (bit_at (get_or old (x / 64) 0) (x % 64)) (bit_at (get_or others (x / 64) 0) (x % 64))
    (bit_at-lt (get_or old (x / 64) 0) (x % 64)) (bit_at-lt (get_or others (x / 64) 0) (x % 64))
    ∙ ap (λ b. b || eqb (bit_at (get_or others (x / 64) 0) (x % 64)) 1) (sym (is_member-bits_of x old ∙ has_bit_is old x))
    ∙ ap (λ b. is_member x (bits_of old) || b) (sym (is_member-bits_of x others ∙ has_bit_is others x))
  where
    each : (i : ℕ) → get_or words i 0 ≡ bit_or (get_or old i 0) (get_or others i 0)
    each i = elim (cases_lt i at) [
      | inl l ↦ h i ∙ cond-true (ltb i at) _ _ (lt-ltb i at l)
      | inr g ↦ h i ∙ cond-false (ltb i at) _ _ (le-ltb i at g)
          ∙ sym (ap (bit_or (get_or old i 0)) (get_or_past others i 0 (omega arith)) ∙ or_zero_r (get_or old i 0))
    ]

-- ---- no bits of other words

-- a word without the bits of another
abbrev pub without_bits : ℕ → ℕ → ℕ
without_bits word other = bit_and word (bit_not w64 other)

-- the words before a place have none of the bits of the others
abbrev pub AreCleared : List ℕ → List ℕ → ℕ → List ℕ → Type 0
AreCleared = AreChanged without_bits

left_bit : (a b : ℕ) → a < 2 → b < 2 → eqb (min a (1 - b)) 1 ≡ (eqb a 1 && not (eqb b 1))
left_bit zero (suc (suc b)) h k = absurd (omega arith)
left_bit (suc zero) (suc (suc b)) h k = absurd (omega arith)
left_bit (suc (suc a)) b h k = absurd (omega arith)
left_bit _ b h k = refl

-- a bit is left where the other word has none
bit_left : (a b i : ℕ) → b < 2 ^ 64 → i < 64 → eqb (bit_at (without_bits a b) i) 1 ≡ (eqb (bit_at a i) 1 && not (eqb (bit_at b i) 1))
bit_left a b i small within = ap (λ k. eqb k 1) (bit_at_and a (bit_not w64 b) i ∙ ap (min (bit_at a i)) (bit_at_not w64 b i small within))
    ∙ left_bit (bit_at a i) (bit_at b i) (bit_at-lt a i) (bit_at-lt b i)

-- past the place there is no old word, or none of the others
pub cleared_all : (old others words : List ℕ) (at : ℕ) → min (length old) (length others) ≤ at → ((i : ℕ) → get_or others i 0 < 2 ^ 64)
    → AreCleared old others at words → (x : ℕ) → is_member x (bits_of words) ≡ (is_member x (bits_of old) && not (is_member x (bits_of others)))
cleared_all old others words at past small h x =
    is_member-bits_of x words ∙ has_bit_is words x ∙ each (x / 64) (x % 64) (omega arith)
    ∙ ap (λ b. b && not (eqb (bit_at (get_or others (x / 64) 0) (x % 64)) 1)) (sym (is_member-bits_of x old ∙ has_bit_is old x))
    ∙ ap (λ b. is_member x (bits_of old) && not b) (sym (is_member-bits_of x others ∙ has_bit_is others x))
  where
    none : (list : List ℕ) (i k : ℕ) → length list ≤ i → eqb (bit_at (get_or list i 0) k) 1 ≡ false
    none list i k g = ap (λ w. eqb (bit_at w k) 1) (get_or_past list i 0 g) ∙ ap (λ b. eqb b 1) (bit_at-zero k)

    each : (i k : ℕ) → k < 64
        → eqb (bit_at (get_or words i 0) k) 1 ≡ (eqb (bit_at (get_or old i 0) k) 1 && not (eqb (bit_at (get_or others i 0) k) 1))
    each i k within = elim (cases_lt i at) [
      | inl l ↦ ap (λ w. eqb (bit_at w k) 1) (h i ∙ cond-true (ltb i at) _ _ (lt-ltb i at l))
          ∙ bit_left (get_or old i 0) (get_or others i 0) k (small i) within
      | inr g ↦ ap (λ w. eqb (bit_at w k) 1) (h i ∙ cond-false (ltb i at) _ _ (le-ltb i at g)) ∙ elim (cases_lt i (length old)) [
        | inl l ↦ sym (ap (λ b. eqb (bit_at (get_or old i 0) k) 1 && not b) (none others i k (omega arith))
            ∙ and_all (eqb (bit_at (get_or old i 0) k) 1))
        | inr m ↦ none old i k m ∙ sym (ap (λ b. b && not (eqb (bit_at (get_or others i 0) k) 1)) (none old i k m))
      ]
    ]
