-- Sums of numbers over the members of a set (Schrijver, chapter 2).
use Rattle.std.specs.Prelude.{ℕ, List, [], ◌∷◌, ℤ, pos, ◌+ℤ◌, ◌≤ℤ◌, neg_ℤ}

-- the sum of f over the items
abbrev pub sum_of : (ℕ → ℤ) → List ℕ → ℤ
sum_of f [] = pos 0
sum_of f (x ∷ xs) = f x +ℤ sum_of f xs

-- the number is at least -bound and at most bound
abbrev pub IsWithin : ℕ → ℤ → Type 0
IsWithin bound z = (neg_ℤ (pos bound) ≤ℤ z) × (z ≤ℤ pos bound)
