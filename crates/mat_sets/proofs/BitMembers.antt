-- The members of a set of bits are collected word after word, and the bits of a word from the lowest on: those so far are the members below the
-- next one, which is put at the end.
use Rattle.mat_sets.proofs.Common.{◌≡◌, ℕ, ◌+◌, ◌-◌, ◌*◌, ◌%◌, ◌^◌, ◌<◌, ◌≤◌, true, false, ◌&&◌, ltb, bit_and, w64, List, [], ◌∷◌, ◌++◌, inl, inr, refl, sym, ap, ◌∙◌, subst, arith, and_parts, and_right, cases_eq, cases_lt, eq-eqb, le-ltb, lt-ltb, ltb-true, ne_eqb, and_le_l, AreMembersBelow}
use Rattle.mat_sets.proofs.Common.{IsWordOf, IsFirstFrom, is_member, with_one, AllBelow, IsRising}
use Rattle.std.specs.Int.{bit_at, bit_not, trailing_zeros}
use Rattle.std.proofs.lemmas.Nat.Bits.{bit_at-trailing_zeros, bit_at-zero, bit_at_clear_other, bit_at_clear_same}
use Rattle.mat_sets.proofs.Ground.{AllBelow-from_members}
use Rattle.mat_sets.proofs.Members.{is_member-with_one, same_members, IsRising-nil, IsRising-with_one}
use Rattle.mat_sets.proofs.Truths.{and_all}

-- ---- the members below a number

-- a number above all members is put at the end
pub with_one-end : (set : List ℕ) (x : ℕ) → AllBelow x set → with_one set x ≡ set ++ x ∷ []
unfolding with_one
with_one-end [] x below = refl
with_one-end (y ∷ ys) x below =
    let less : y < x = below.0 in
    rw (le-ltb x y (omega arith), ne_eqb x y (omega arith)) (ap (λ zs. y ∷ zs) (with_one-end ys x below.1))

pub AreMembersBelow-none : (bits items : List ℕ) → items ≡ [] → AreMembersBelow bits 0 items
AreMembersBelow-none bits items none = rw none (record {
  rising = IsRising-nil;
  has = λ k. sym (and_right (is_member k bits) (ltb k 0) (le-ltb k 0 (omega arith)));
})

-- no member stands between two numbers
pub AreMembersBelow-on : (bits items : List ℕ) (from to : ℕ) → from ≤ to → ((k : ℕ) → from ≤ k → k < to → is_member k bits ≡ false)
    → AreMembersBelow bits from items → AreMembersBelow bits to items
AreMembersBelow-on bits items from to le missing s = record { rising = s.rising; has = λ k. s.has k ∙ same k }
  where
    same : (k : ℕ) → (is_member k bits && ltb k from) ≡ (is_member k bits && ltb k to)
    same k = elim (cases_lt k from) [
      | inl before ↦ rw (lt-ltb k from before, lt-ltb k to (omega arith)) refl
      | inr later ↦ elim (cases_lt k to) [
        | inl under ↦ rw (missing k later under) refl
        | inr past ↦ rw (le-ltb k from later, le-ltb k to past) refl
      ]
    ]

-- the next member is put at the end
pub AreMembersBelow-more : (bits items : List ℕ) (from x : ℕ) → IsFirstFrom (λ k. is_member k bits) from x → AreMembersBelow bits from items
    → AreMembersBelow bits (x + 1) (items ++ x ∷ [])
AreMembersBelow-more bits items from x first s =
    let more : AreMembersBelow bits (x + 1) (with_one items x) = record {
      rising = IsRising-with_one items x s.rising;
      has = λ k. is_member-with_one k x items ∙ elim (cases_eq k x) [
        | inl same ↦ rw (eq-eqb k x same, ap (λ z. is_member z bits) same ∙ first.passes, lt-ltb k (x + 1) (omega arith)) refl
        | inr other ↦ rw (ne_eqb k x other) (s.has k ∙ rest k other)
      ];
    } in
    subst (AreMembersBelow bits (x + 1)) (with_one-end items x (AllBelow-from_members x items under)) more
  where
    under : (k : ℕ) → is_member k items ≡ true → k < x
    under k m =
        let before = and_parts (is_member k bits) (ltb k from) (sym (s.has k) ∙ m) in
        omega (arith, first.reaches, ltb-true k from before.1)

    rest : (k : ℕ) → (k ≡ x → ⊥) → (is_member k bits && ltb k from) ≡ (is_member k bits && ltb k (x + 1))
    rest k other = elim (cases_lt k x) [
      | inl less ↦ elim (cases_lt k from) [
        | inl before ↦ rw (lt-ltb k from before, lt-ltb k (x + 1) (omega arith)) refl
        | inr later ↦ rw (first.none_before k later less) refl
      ]
      | inr more ↦ let reached = first.reaches in rw (le-ltb k from (omega arith), le-ltb k (x + 1) (omega arith)) refl
    ]

-- no member is left
pub AreMembersBelow-all : (bits items : List ℕ) (from : ℕ) → IsRising bits → ((k : ℕ) → from ≤ k → is_member k bits ≡ false)
    → AreMembersBelow bits from items → items ≡ bits
AreMembersBelow-all bits items from rising left s = same_members items bits s.rising rising (λ k. s.has k ∙ elim (cases_lt k from) [
  | inl before ↦ rw (lt-ltb k from before) (and_all (is_member k bits))
  | inr later ↦ rw (left k later) refl
])

-- ---- the bits of a word

-- the numbers of the bits below `low` are put behind the items, and the rest of the word has the others
pub record AreBitsPushed (bits : List ℕ) (first word rest : ℕ) (items : List ℕ) : Type 0 where
  pub low : ℕ
  pub few : low ≤ 64
  pub below : AreMembersBelow bits (first + low) items
  pub same : (i : ℕ) → i < 64 → low ≤ i → bit_at rest i ≡ bit_at word i
  pub gone : (i : ℕ) → i < low → bit_at rest i ≡ 0

pub AreBitsPushed-none : (bits : List ℕ) (first word : ℕ) (items : List ℕ) → AreMembersBelow bits first items
    → AreBitsPushed bits first word word items
AreBitsPushed-none bits first word items s =
    let start : first ≡ first + 0 = omega arith in
    record {
      low = 0;
      few = omega arith;
      below = subst (λ k. AreMembersBelow bits k items) start s;
      same = λ i small le. refl;
      gone = λ i less. absurd (omega arith);
    }

-- the rest without its lowest bit
abbrev pub cleared : ℕ → ℕ
cleared rest = bit_and rest (bit_not w64 (1 * 2 ^ trailing_zeros w64 rest % 2 ^ 64))

module _ (rest : ℕ) (some : 0 < rest) (small : rest < 2 ^ 64) where
  lowest : (trailing_zeros w64 rest < 64) × (bit_at rest (trailing_zeros w64 rest) ≡ 1)
      × ((i : ℕ) → i < trailing_zeros w64 rest → bit_at rest i ≡ 0)
  lowest = bit_at-trailing_zeros w64 rest some small

  pub cleared-less : cleared rest < rest
  cleared-less = elim (cases_eq (cleared rest) rest) [
    | inl same ↦ absurd (let own : bit_at (cleared rest) (trailing_zeros w64 rest) ≡ bit_at rest (trailing_zeros w64 rest)
        = ap (λ r. bit_at r (trailing_zeros w64 rest)) same in
        omega (arith, own, lowest.1, bit_at_clear_same w64 rest (trailing_zeros w64 rest) lowest.0))
    | inr other ↦ omega (arith, and_le_l rest (bit_not w64 (1 * 2 ^ trailing_zeros w64 rest % 2 ^ 64)))
  ]

  module _ (bits : List ℕ) (first word : ℕ) (items : List ℕ) (w : IsWordOf bits first word) (s : AreBitsPushed bits first word rest items) where
    above : s.low ≤ trailing_zeros w64 rest
    above = elim (cases_lt (trailing_zeros w64 rest) s.low) [
      | inl less ↦ absurd (omega (arith, lowest.1, s.gone (trailing_zeros w64 rest) less))
      | inr le ↦ le
    ]

    -- a number whose bit is not set in the rest
    unset : (i : ℕ) → i < 64 → s.low ≤ i → bit_at rest i ≡ 0 → is_member (first + i) bits ≡ false
    unset i fits le zero = w i fits ∙ ne_eqb (bit_at word i) 1 (λ one. omega (arith, one, zero, s.same i fits le))

    next : IsFirstFrom (λ k. is_member k bits) (first + s.low) (first + trailing_zeros w64 rest)
    next = record {
      reaches = omega (arith, above);
      passes = w (trailing_zeros w64 rest) lowest.0
          ∙ eq-eqb (bit_at word (trailing_zeros w64 rest)) 1 (sym (s.same (trailing_zeros w64 rest) lowest.0 above) ∙ lowest.1);
      none_before = λ x le less. (
          let i : first + (x - first) ≡ x = omega arith in
          let under : x - first < trailing_zeros w64 rest = omega arith in
          ap (λ z. is_member z bits) (sym i)
          ∙ unset (x - first) (omega (arith, lowest.0)) (omega arith) (lowest.2 (x - first) under));
    }

    pub AreBitsPushed-more : AreBitsPushed bits first word (cleared rest) (items ++ (first + trailing_zeros w64 rest) ∷ [])
    AreBitsPushed-more =
        let bit = trailing_zeros w64 rest in
        let after : first + bit + 1 ≡ first + (bit + 1) = omega arith in
        record {
          low = bit + 1;
          few = omega (arith, lowest.0);
          below = subst (λ k. AreMembersBelow bits k (items ++ (first + bit) ∷ [])) after
              (AreMembersBelow-more bits items (first + s.low) (first + bit) next s.below);
          same = λ i fits le. bit_at_clear_other w64 rest bit lowest.0 i fits (omega arith) ∙ s.same i fits (omega (arith, above));
          gone = λ i less. elim (cases_eq i bit) [
            | inl here ↦ ap (λ j. bit_at (cleared rest) j) here ∙ bit_at_clear_same w64 rest bit lowest.0
            | inr other ↦ bit_at_clear_other w64 rest bit lowest.0 i (omega (arith, lowest.0)) other ∙ lowest.2 i (omega arith)
          ];
        }

-- no bit is left
pub AreBitsPushed-all : (bits : List ℕ) (first word rest : ℕ) (items : List ℕ) → rest ≡ 0 → IsWordOf bits first word
    → AreBitsPushed bits first word rest items → AreMembersBelow bits (first + 64) items
AreBitsPushed-all bits first word rest items none w s =
    AreMembersBelow-on bits items (first + s.low) (first + 64) (omega (arith, s.few)) (λ k le less. (
    let i : first + (k - first) ≡ k = omega arith in
    ap (λ z. is_member z bits) (sym i) ∙ unset (k - first) (omega arith) (omega arith))) s.below
  where
    unset : (i : ℕ) → i < 64 → s.low ≤ i → is_member (first + i) bits ≡ false
    unset i fits le = w i fits ∙ ne_eqb (bit_at word i) 1
        (λ one. omega (arith, one, s.same i fits le, ap (λ r. bit_at r i) none, bit_at-zero i))
