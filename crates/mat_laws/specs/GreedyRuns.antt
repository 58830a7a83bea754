-- Greedy runs along an order of elements (Schrijver, chapter 40).
use Rattle.std.specs.Prelude.{ℕ, Bool, not, ◌&&◌, if◌then◌else◌, List, [], ◌∷◌}
use Rattle.mat_sets.specs.Sets.{is_member, with_one}

-- the set after x came: with x where it is new and the set stays independent
abbrev pub grown_by : (List ℕ → Bool) → List ℕ → ℕ → List ℕ
grown_by independent I x = if (not (is_member x I) && independent (with_one I x)) then with_one I x else I

-- the set after each element of the order came, one after the other
abbrev pub grown_along : (List ℕ → Bool) → List ℕ → List ℕ → List ℕ
grown_along independent I [] = I
grown_along independent I (x ∷ order) = grown_along independent (grown_by independent I x) order
