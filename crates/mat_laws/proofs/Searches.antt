-- What a search through all subsets or all elements tells: an independent set is heaviest of its size exactly where none beats it, and
-- a base exactly where no element can be added.
use Rattle.mat_laws.proofs.Common.{◌≡◌, ℕ, Bool, true, false, not, ◌&&◌, eqb, List, length, arith, and_parts, false_from_ne_true, eq-eqb, eqb-true, not-true, both_ways, is_member, with_one, all_below, is_below, weight_sum, Weight, not_below_gives, not_below_from, some_below_gives, some_below_none}
use Rattle.mat_laws.proofs.Common.{some_subset_gives, some_subset_none, IsRising-all_below, IsSubset-all_below, IsMatroid, IsBase, IsHeaviest}
use Rattle.mat_laws.specs.Searches.{is_beaten, has_addable}

-- the last of three tests fails where all fail together and the others hold
last_fails : (a b c : Bool) → a ≡ true → b ≡ true → (a && b && c) ≡ false → c ≡ false
last_fails true true c ha hb h = h
last_fails true false c ha hb h = grind arith
last_fails false b c ha hb h = grind arith

-- the second of two tests fails where both fail together and the first holds
second_fails : (a b : Bool) → a ≡ false → (not a && b) ≡ false → b ≡ false
second_fails true b ha h = grind arith
second_fails false b ha h = h

-- no element can be added to a base
pub IsBase-not_addable : (n : ℕ) (p : List ℕ → Bool) (X : List ℕ) → IsBase n p X → has_addable n p X ≡ false
IsBase-not_addable n p X b = false_from_ne_true _ (λ found.
    let a = some_below_gives n (λ e. not (is_member e X) && p (with_one X e)) found in
    let parts = and_parts (not (is_member a.0 X)) (p (with_one X a.0)) a.2 in
    both_ways _ (b.full a.0 a.1 (not-true _ parts.0)) parts.1)

-- an independent set to which no element can be added is a base
pub not_addable-IsBase : (n : ℕ) (p : List ℕ → Bool) (X : List ℕ) → p X ≡ true → has_addable n p X ≡ false → IsBase n p X
not_addable-IsBase n p X h none = record {
  passes = h;
  full = λ x small out.
      second_fails (is_member x X) (p (with_one X x)) out
      (some_below_none n x (λ e. not (is_member e X) && p (with_one X e)) none small);
}

-- no independent set beats a heaviest one
pub IsHeaviest-not_beaten : (n : ℕ) (p : List ℕ → Bool) (w : ℕ → Weight) (X : List ℕ) → IsHeaviest p w X → is_beaten n p w X ≡ false
IsHeaviest-not_beaten n p w X h = false_from_ne_true _ (λ found.
    let better : List ℕ → Bool = λ Y. p Y && eqb (length Y) (length X) && is_below (weight_sum w X) (weight_sum w Y) in
    let a = some_subset_gives (all_below n) better (IsRising-all_below n) found in
    let parts = and_parts (p a.0 && eqb (length a.0) (length X)) (is_below (weight_sum w X) (weight_sum w a.0)) a.3 in
    let same = and_parts (p a.0) (eqb (length a.0) (length X)) parts.0 in
    both_ways _ (not_below_from (weight_sum w X) (weight_sum w a.0) (h.most a.0 same.0 (eqb-true _ _ same.1))) parts.1)

-- an independent set of a matroid that none beats is heaviest of its size
pub not_beaten-IsHeaviest : {n : ℕ} {p : List ℕ → Bool} → IsMatroid n p → (w : ℕ → Weight) (X : List ℕ) → p X ≡ true
    → is_beaten n p w X ≡ false → IsHeaviest p w X
not_beaten-IsHeaviest {n} {p} laws w X h none = record {
  passes = h;
  most = λ Y in_p size.
      let s = laws.sets Y in_p in
      let better : List ℕ → Bool = λ Z. p Z && eqb (length Z) (length X) && is_below (weight_sum w X) (weight_sum w Z) in
      let fails = some_subset_none (all_below n) Y better none (IsRising-all_below n) s.rising (IsSubset-all_below n Y s.below) in
      not_below_gives (weight_sum w X) (weight_sum w Y) (last_fails (p Y) (eqb (length Y) (length X)) _ in_p (eq-eqb _ _ size) fails);
}
