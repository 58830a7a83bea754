-- Tests that look through finitely many numbers, lists or subsets.
use Rattle.std.specs.Prelude.{◌≡◌, ℕ, zero, suc, ◌<◌, ◌≤◌, Bool, true, false, ◌||◌, List, [], ◌∷◌, filter, Option, MatchOption}
use Rattle.mat_sets.specs.Sets.{all_below}

-- the set of the numbers below n that pass
unfoldable pub those_below : ℕ → (ℕ → Bool) → List ℕ
those_below n test = filter test (all_below n)

-- whether some number below n passes
unfoldable pub some_below : ℕ → (ℕ → Bool) → Bool
some_below zero test = false
some_below (suc n) test = test n || some_below n test

-- whether some list of k numbers below n passes
unfoldable pub some_list : ℕ → ℕ → (List ℕ → Bool) → Bool
some_list zero n test = test []
some_list (suc k) n test = some_below n (λ x. some_list k n (λ xs. test (x ∷ xs)))

-- whether some subset of a set passes
unfoldable pub some_subset : List ℕ → (List ℕ → Bool) → Bool
some_subset [] test = test []
some_subset (x ∷ xs) test = some_subset xs (λ a. test (x ∷ a)) || some_subset xs test

-- the first number from `from` on that passes
pub record IsFirstFrom (test : ℕ → Bool) (from v : ℕ) : Type 0 where
  pub reaches : from ≤ v
  pub passes : test v ≡ true
  pub none_before : (x : ℕ) → from ≤ x → x < v → test x ≡ false

-- that number, or None where no number from `from` on passes
abbrev pub IsNextFrom : (ℕ → Bool) → ℕ → Option ℕ → Type 0
IsNextFrom test from found = MatchOption found ((x : ℕ) → from ≤ x → test x ≡ false) (IsFirstFrom test from)
