-- Adding the ranks of a set in matroids one after the other.
use Rattle.mat_check.proofs.Common.{◌≡◌, ℕ, ◌+◌, Bool, List, map, drop, ranks_sum}

module _ {M : Type 0} (indep : M → List ℕ → Bool) (matroids : List M) (X : List ℕ) where
  -- those of the first i are added
  abbrev pub AreAdded : ℕ → ℕ → Type 0
  AreAdded i sum = sum + ranks_sum (map indep (drop i matroids)) X ≡ ranks_sum (map indep matroids) X
