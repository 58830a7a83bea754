-- Matroids that bound how many elements a set may have, and how many in each of listed sets (Schrijver, chapter 39).
use Rattle.std.specs.Prelude.{ℕ, ◌<◌, ◌≤◌, Bool, true, ◌&&◌, nat_le, List, [], ◌∷◌, length, slice_index_or}
use Rattle.mat_sets.specs.Sets.{intersection}
use Rattle.mat_sets.specs.SetTests.{is_set}

-- the uniform matroid: at most `cap` elements
abbrev pub is_uniform : ℕ → ℕ → List ℕ → Bool
is_uniform n cap X = is_set n X && nat_le (length X) cap

-- whether X has at most its cap of members in each listed set
abbrev pub is_within_caps : List (List ℕ) → List ℕ → List ℕ → Bool
is_within_caps [] caps X = true
is_within_caps (S ∷ sets) [] X = true
is_within_caps (S ∷ sets) (cap ∷ caps) X = nat_le (length (intersection X S)) cap && is_within_caps sets caps X

-- the same in words, where there are as many caps as sets: for each listed set, X has at most that set's cap of members in it
pub record IsWithinCaps (sets : List (List ℕ)) (caps X : List ℕ) : Type 0 where
  pub at : (i : ℕ) → i < length sets → length (intersection X (slice_index_or sets i [])) ≤ slice_index_or caps i 0

-- the partition and the laminar matroid: at most its cap of members in each listed set; an element in none of them is free
abbrev pub is_counted : ℕ → List (List ℕ) → List ℕ → List ℕ → Bool
is_counted n sets caps X = is_set n X && is_within_caps sets caps X
