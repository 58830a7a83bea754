-- The search for the first number in two sets of bits, word by word: what both words and a mask have in common is 0, or
-- its lowest bit is the number sought. The mask leaves out the numbers below the first.
use Rattle.mat_sets.proofs.Common.{Bool, List, ap, arith, bit_and, eqb, false, get_or, inl, inr, length, min, sym, true, w64, ℕ, ◌&&◌, ◌+◌, ◌-◌, ◌*◌, ◌/◌, ◌%◌, ◌^◌, ◌<◌, ◌∙◌, ◌≡◌, ◌≤◌, and_from, and_left, and_right, cases_lt, eq-eqb, ne_eqb, bits_of, has_bit, IsFirstFrom, is_member}
use Rattle.std.specs.Int.{bit_at, trailing_zeros}
use Rattle.std.proofs.lemmas.Nat.Bits.{bit_at-lt, bit_at-trailing_zeros, bit_at-zero, bit_at_and, bit_at_mask_below, bit_at_mask_inside, bit_at_ones, ones_shl}
use Rattle.mat_sets.proofs.Bits.{has_bit_past, is_member-bits_of}

-- whether x is in both sets
abbrev pub in_both : List ℕ → List ℕ → ℕ → Bool
in_both a b x = is_member x (bits_of a) && is_member x (bits_of b)

-- what both words and a mask have in common
abbrev pub common_word : List ℕ → List ℕ → ℕ → ℕ → ℕ
common_word a b at mask = bit_and (bit_and (get_or a at 0) (get_or b at 0)) mask

-- the words before `at` are searched, and the mask has those bits of the next word that count
pub record IsScanned (a b : List ℕ) (from at mask : ℕ) : Type 0 where
  pub none : (x : ℕ) → from ≤ x → x < 64 * at → in_both a b x ≡ false
  pub inside : (i : ℕ) → i < 64 → from ≤ 64 * at + i → bit_at mask i ≡ 1
  pub below : (i : ℕ) → i < 64 → 64 * at + i < from → bit_at mask i ≡ 0

bits_common : (a b : List ℕ) (at mask i : ℕ) → bit_at (common_word a b at mask) i ≡ min
    (min (bit_at (get_or a at 0) i) (bit_at (get_or b at 0) i)) (bit_at mask i)
bits_common a b at mask i = bit_at_and (bit_and (get_or a at 0) (get_or b at 0)) mask i
    ∙ ap (λ z. min z (bit_at mask i)) (bit_at_and (get_or a at 0) (get_or b at 0) i)

in_both_is : (a b : List ℕ) (x : ℕ) → in_both a b x ≡ (eqb (bit_at (get_or a (x / 64) 0) (x % 64)) 1 && eqb (bit_at (get_or b (x / 64) 0) (x % 64)) 1)
unfolding has_bit
in_both_is a b x = rw (is_member-bits_of x a, is_member-bits_of x b)

one_is_missing : (p q : ℕ) → p < 2 → q < 2 → min (min p q) 1 ≡ 0 → (eqb p 1 && eqb q 1) ≡ false
one_is_missing p q hp hq e = elim (cases_lt p 1) [
  | inl l ↦ and_left (eqb p 1) (eqb q 1) (ne_eqb p 1 (omega arith))
  | inr h ↦ and_right (eqb p 1) (eqb q 1) (ne_eqb q 1 (omega arith))
]

-- a number that counts, and whose bit is not in what the words have in common, is not in both sets
missed : (a b : List ℕ) (from at mask x : ℕ) → IsScanned a b from at mask → from ≤ x → x / 64 ≡ at
    → bit_at (common_word a b at mask) (x % 64) ≡ 0 → in_both a b x ≡ false
missed a b from at mask x s h e z =
    let m = s.inside (x % 64) (omega arith) (omega arith) in
    let c = bits_common a b at mask (x % 64) in
    in_both_is a b x ∙ rw e (one_is_missing (bit_at (get_or a at 0) (x % 64)) (bit_at (get_or b at 0) (x % 64)) (bit_at-lt _ _) (bit_at-lt _ _)
    (omega arith))

pub scan_start : (a b : List ℕ) (from : ℕ) → IsScanned a b from (from / 64) ((2 ^ 64 - 1) * 2 ^ (from % 64) % 2 ^ 64)
scan_start a b from = rw (ones_shl 64 (from % 64) (omega arith)) (record {
  none = λ x h l. absurd (omega arith);
  inside = λ i l h. bit_at_mask_inside (from % 64) 64 i (omega arith) l;
  below = λ i l h. bit_at_mask_below (from % 64) 64 i (omega arith);
})

pub scan_more : (a b : List ℕ) (from at mask : ℕ) → IsScanned a b from at mask → from < 64 * (at + 1) → common_word a b at mask ≡ 0
    → IsScanned a b from (at + 1) (2 ^ 64 - 1)
scan_more a b from at mask s near z = record {
  none = λ x h l. elim (cases_lt x (64 * at)) [
    | inl b ↦ s.none x h b
    | inr m ↦ missed a b from at mask x s h (omega arith) (ap (λ w. bit_at w (x % 64)) z ∙ bit_at-zero (x % 64))
  ];
  inside = λ i l h. bit_at_ones 64 i l;
  below = λ i l h. absurd (omega arith);
}

both_ones : (p q m : ℕ) → p < 2 → q < 2 → min (min p q) m ≡ 1 → (eqb p 1 && eqb q 1) ≡ true
both_ones p q m hp hq e = and_from (eqb p 1) (eqb q 1) (eq-eqb p 1 (omega arith)) (eq-eqb q 1 (omega arith))

-- a number whose bit is in what the words have in common is in both sets
hit : (a b : List ℕ) (at mask x : ℕ) → x / 64 ≡ at → bit_at (common_word a b at mask) (x % 64) ≡ 1 → in_both a b x ≡ true
hit a b at mask x e one =
    let c = bits_common a b at mask (x % 64) in
    in_both_is a b x ∙ rw e (both_ones (bit_at (get_or a at 0) (x % 64)) (bit_at (get_or b at 0) (x % 64)) (bit_at mask (x % 64)) (bit_at-lt _ _)
    (bit_at-lt _ _) (omega arith))

-- a bit in what the words have in common counts
counts : (a b : List ℕ) (from at mask i : ℕ) → IsScanned a b from at mask → i < 64 → bit_at (common_word a b at mask) i ≡ 1 → from ≤ at * 64 + i
counts a b from at mask i s l one = elim (cases_lt (at * 64 + i) from) [
  | inl under ↦ (let z = s.below i l (omega arith) in let c = bits_common a b at mask i in absurd (omega arith))
  | inr h ↦ h
]

pub scan_found : (a b : List ℕ) (from at mask word : ℕ) → IsScanned a b from at mask → word ≡ common_word a b at mask
    → 0 < word → word < 2 ^ 64 → IsFirstFrom (in_both a b) from (at * 64 + trailing_zeros w64 word)
scan_found a b from at mask word s e pos small =
    let t = bit_at-trailing_zeros w64 word pos small in
    first (trailing_zeros w64 word) t.0 (rw (sym e) t.1) (λ k l. rw (sym e) (t.2 k l))
  where
    first : (i : ℕ) → i < 64 → bit_at (common_word a b at mask) i ≡ 1 → ((k : ℕ) → k < i → bit_at (common_word a b at mask) k ≡ 0)
        → IsFirstFrom (in_both a b) from (at * 64 + i)
    first i l one zeros = record {
      reaches = counts a b from at mask i s l one;
      passes = hit a b at mask (at * 64 + i) (omega arith) (let e : (at * 64 + i) % 64 ≡ i = omega arith in rw e one);
      none_before = λ x h less. elim (cases_lt x (64 * at)) [
        | inl under ↦ s.none x h under
        | inr m ↦ missed a b from at mask x s h (omega arith) (zeros (x % 64) (omega arith))
      ];
    }

pub scan_end : (a b : List ℕ) (from at mask : ℕ) → IsScanned a b from at mask → min (length a) (length b) ≤ at
    → (x : ℕ) → from ≤ x → in_both a b x ≡ false
scan_end a b from at mask s past x h = elim (cases_lt x (64 * at)) [
  | inl l ↦ s.none x h l
  | inr m ↦ elim (cases_lt (x / 64) (length a)) [
    | inr out ↦ and_left _ _ (is_member-bits_of x a ∙ has_bit_past a x out)
    | inl l ↦ and_right (is_member x (bits_of a)) (is_member x (bits_of b)) (is_member-bits_of x b ∙ has_bit_past b x (omega arith))
  ]
]
