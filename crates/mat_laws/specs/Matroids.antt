-- Matroids on the numbers below n, each by its test of independence (Schrijver, chapter 39).
use Rattle.std.specs.Prelude.{◌≡◌, ℕ, ◌<◌, Bool, true, false, List, [], ◌∷◌, length}
use Rattle.mat_sets.specs.Sets.{is_member, IsRising, IsSet, IsSubset, with_one}

-- an element of J outside I whose addition keeps I independent
pub record Augments (independent : List ℕ → Bool) (I J : List ℕ) : Type 0 where
  pub element : ℕ
  pub inside : is_member element J ≡ true
  pub outside : is_member element I ≡ false
  pub augmented : independent (with_one I element) ≡ true

-- the test is the independence of a matroid on n elements: it holds of the empty set, of each subset of a set that it
-- holds of, the smaller of two sets can take an element of the larger, and it holds of sets on n elements alone
pub record IsMatroid (n : ℕ) (independent : List ℕ → Bool) : Type 0 where
  pub empty : independent [] ≡ true
  pub subsets : (I J : List ℕ) → IsRising I → IsSubset I J → independent J ≡ true → independent I ≡ true
  pub augmentation : (I J : List ℕ) → independent I ≡ true → independent J ≡ true → length I < length J → Augments independent I J
  pub sets : (I : List ℕ) → independent I ≡ true → IsSet n I

-- a maximal independent subset of X: an independent set inside X to which no element of X can be added
pub record IsMaximal (independent : List ℕ → Bool) (X I : List ℕ) : Type 0 where
  pub passes : independent I ≡ true
  pub inside : IsSubset I X
  pub full : (x : ℕ) → is_member x X ≡ true → is_member x I ≡ false → independent (with_one I x) ≡ false

-- a base: an independent set to which no element at all can be added
pub record IsBase (n : ℕ) (independent : List ℕ → Bool) (B : List ℕ) : Type 0 where
  pub passes : independent B ≡ true
  pub full : (x : ℕ) → x < n → is_member x B ≡ false → independent (with_one B x) ≡ false

-- a loop: an element that is dependent alone
abbrev pub IsLoop : ℕ → (List ℕ → Bool) → ℕ → Type 0
IsLoop n independent x = (x < n) × (independent (x ∷ []) ≡ false)
