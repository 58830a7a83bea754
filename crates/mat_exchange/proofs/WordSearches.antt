-- The members in a word are the bits that are set in it. They are gone through from the lowest on, and each is cleared in the rest: so the rest has
-- the members from some number on.
use Rattle.mat_exchange.proofs.Common.{◌≡◌, ℕ, ◌+◌, ◌-◌, ◌^◌, ◌<◌, ◌≤◌, Bool, true, eqb, w64, Option, inl, inr, sym, ap, ◌∙◌, subst, arith, cases_eq, cases_lt, eq-eqb, ne_eqb, IsFirstFrom, Weight, cleared, heavier_of, IsHeaviestToOrNone}
use Rattle.std.specs.Int.{bit_at, trailing_zeros}
use Rattle.std.proofs.lemmas.Nat.Bits.{bit_at-trailing_zeros, bit_at-zero, bit_at_clear_other, bit_at_clear_same}
use Rattle.mat_exchange.proofs.HeaviestMembers.{heaviest_to_next, heaviest_to_on}

-- the numbers of the bits below `low` are gone through, and the rest has the others
pub record IsWordSearched (test : ℕ → Bool) (w : ℕ → Weight) (first rest : ℕ) (heaviest : Option ℕ) : Type 0 where
  pub low : ℕ
  pub few : low ≤ 64
  pub found : IsHeaviestToOrNone test w (first + low) heaviest
  pub left : (i : ℕ) → i < 64 → low ≤ i → test (first + i) ≡ eqb (bit_at rest i) 1
  pub gone : (i : ℕ) → i < low → bit_at rest i ≡ 0

pub IsWordSearched-none : (test : ℕ → Bool) (w : ℕ → Weight) (first word : ℕ) (heaviest : Option ℕ)
    → ((i : ℕ) → i < 64 → test (first + i) ≡ eqb (bit_at word i) 1) → IsHeaviestToOrNone test w first heaviest
    → IsWordSearched test w first word heaviest
IsWordSearched-none test w first word heaviest bits h =
    let start : first ≡ first + 0 = omega arith in
    record {
      low = 0;
      few = omega arith;
      found = subst (λ k. IsHeaviestToOrNone test w k heaviest) start h;
      left = λ i fits le. bits i fits;
      gone = λ i less. absurd (omega arith);
    }

module _ (test : ℕ → Bool) (w : ℕ → Weight) (first rest : ℕ) (heaviest : Option ℕ) (some : 0 < rest) (small : rest < 2 ^ 64)
    (s : IsWordSearched test w first rest heaviest) where
  lowest : (trailing_zeros w64 rest < 64) × (bit_at rest (trailing_zeros w64 rest) ≡ 1)
      × ((i : ℕ) → i < trailing_zeros w64 rest → bit_at rest i ≡ 0)
  lowest = bit_at-trailing_zeros w64 rest some small

  above : s.low ≤ trailing_zeros w64 rest
  above = elim (cases_lt (trailing_zeros w64 rest) s.low) [
    | inl less ↦ absurd (omega (arith, lowest.1, s.gone (trailing_zeros w64 rest) less))
    | inr le ↦ le
  ]

  -- the lowest bit of the rest is that of a member
  pub lowest_passes : test (first + trailing_zeros w64 rest) ≡ true
  lowest_passes = s.left (trailing_zeros w64 rest) lowest.0 above ∙ eq-eqb (bit_at rest (trailing_zeros w64 rest)) 1 lowest.1

  next : IsFirstFrom test (first + s.low) (first + trailing_zeros w64 rest)
  next = record {
    reaches = omega (arith, above);
    passes = lowest_passes;
    none_before = λ x le less. (
        let bit : x - first < trailing_zeros w64 rest = omega arith in
        let place : first + (x - first) ≡ x = omega arith in
        ap test (sym place) ∙ s.left (x - first) (omega (arith, lowest.0)) (omega arith)
        ∙ ne_eqb (bit_at rest (x - first)) 1 (λ one. omega (arith, one, lowest.2 (x - first) bit)));
  }

  pub IsWordSearched-more : IsWordSearched test w first (cleared rest) (heavier_of w heaviest (first + trailing_zeros w64 rest))
  IsWordSearched-more =
      let bit = trailing_zeros w64 rest in
      let after : first + bit + 1 ≡ first + (bit + 1) = omega arith in
      record {
        low = bit + 1;
        few = omega (arith, lowest.0);
        found = subst (λ k. IsHeaviestToOrNone test w k (heavier_of w heaviest (first + bit))) after
            (heaviest_to_next test w (first + s.low) (first + bit) heaviest next s.found);
        left = λ i fits le. s.left i fits (omega (arith, above))
            ∙ ap (λ b. eqb b 1) (sym (bit_at_clear_other w64 rest bit lowest.0 i fits (omega arith)));
        gone = λ i less. elim (cases_eq i bit) [
          | inl here ↦ ap (λ j. bit_at (cleared rest) j) here ∙ bit_at_clear_same w64 rest bit lowest.0
          | inr other ↦ bit_at_clear_other w64 rest bit lowest.0 i (omega (arith, lowest.0)) other ∙ lowest.2 i (omega arith)
        ];
      }

-- no bit is left
pub IsWordSearched-all : (test : ℕ → Bool) (w : ℕ → Weight) (first rest : ℕ) (heaviest : Option ℕ) → rest ≡ 0
    → IsWordSearched test w first rest heaviest → IsHeaviestToOrNone test w (first + 64) heaviest
IsWordSearched-all test w first rest heaviest none s =
    heaviest_to_on test w (first + s.low) (first + 64) heaviest (λ x le less. (
    let place : first + (x - first) ≡ x = omega arith in
    ap test (sym place) ∙ s.left (x - first) (omega arith) (omega arith) ∙ ap (λ r. eqb (bit_at r (x - first)) 1) none
    ∙ ne_eqb (bit_at 0 (x - first)) 1 (λ one. omega (arith, one, bit_at-zero (x - first))))) s.found
