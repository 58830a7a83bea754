-- Whether a list is a set, and whether no item of a list stands twice, as tests.
use Rattle.std.specs.Prelude.{ℕ, suc, Bool, true, not, ◌&&◌, nat_le, nat_lt, List, [], ◌∷◌}
use Rattle.mat_sets.specs.Sets.{is_member}

-- whether each item is at least `lo`, below n, and above the one before it
abbrev pub rises_within : ℕ → ℕ → List ℕ → Bool
rises_within lo n [] = true
rises_within lo n (x ∷ xs) = (nat_le lo x && nat_lt x n) && rises_within (suc x) n xs

-- whether the list is a set on n elements
unfoldable pub is_set : ℕ → List ℕ → Bool
is_set n xs = rises_within 0 n xs

-- whether no item stands twice
abbrev pub are_distinct : List ℕ → Bool
are_distinct [] = true
are_distinct (x ∷ xs) = not (is_member x xs) && are_distinct xs
