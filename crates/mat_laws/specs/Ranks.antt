-- The rank of a set: the largest size of an independent subset (Schrijver, chapter 39).
use Rattle.std.specs.Prelude.{◌≡◌, ℕ, zero, suc, ◌≤◌, Bool, true, ◌&&◌, ◌==◌, if◌then◌else◌, List, length}
use Rattle.mat_sets.specs.Sets.{IsSubset}
use Rattle.mat_sets.specs.Search.{some_subset}

-- some independent subset of X has r elements, and none has more
pub record IsRank (independent : List ℕ → Bool) (X : List ℕ) (r : ℕ) : Type 0 where
  pub largest : List ℕ
  pub passes : independent largest ≡ true
  pub inside : IsSubset largest X
  pub size : length largest ≡ r
  pub most : (I : List ℕ) → independent I ≡ true → IsSubset I X → length I ≤ r

-- the largest number up to n that passes the test, or 0
unfoldable pub largest_up_to : ℕ → (ℕ → Bool) → ℕ
largest_up_to zero test = zero
largest_up_to (suc n) test = if test (suc n) then suc n else largest_up_to n test

-- whether some independent subset of X has k elements
abbrev pub has_independent : (List ℕ → Bool) → List ℕ → ℕ → Bool
has_independent independent X k = some_subset X (λ I. independent I && (length I == k))

-- the rank of X: the largest k such that some independent subset of X has k elements
unfoldable pub rank : (List ℕ → Bool) → List ℕ → ℕ
rank independent X = largest_up_to (length X) (has_independent independent X)
