-- Families of sets, as lists of sets (Schrijver, chapter 2).
use Rattle.std.specs.Prelude.{ℕ, ◌+◌, ◌≤◌, Bool, if◌then◌else◌, List, [], ◌∷◌, ℤ, pos, ◌+ℤ◌}
use Rattle.mat_sets.specs.Sets.{is_member, IsRising, union}
use Rattle.mat_sets.specs.Sums.{sum_of}

-- each set rises
abbrev pub AllRising : List (List ℕ) → Type 0
AllRising [] = Unit {0}
AllRising (a ∷ family) = IsRising a × AllRising family

-- 1 where the test holds, and 0 where it does not
abbrev pub indicator : Bool → ℕ
indicator b = if b then 1 else 0

-- in how many sets of the family x stands
unfoldable pub multiplicity : ℕ → List (List ℕ) → ℕ
multiplicity x [] = 0
multiplicity x (a ∷ family) = indicator (is_member x a) + multiplicity x family

-- no two sets of the family share a member: each number stands in at most one
pub record AreDisjoint (family : List (List ℕ)) : Type 0 where
  pub once : (x : ℕ) → multiplicity x family ≤ 1

-- the sum of f over the members of each set, all together
unfoldable pub family_sum : (ℕ → ℤ) → List (List ℕ) → ℤ
family_sum f [] = pos 0
family_sum f (a ∷ family) = sum_of f a +ℤ family_sum f family

-- the members of any set of the family
unfoldable pub family_union : List (List ℕ) → List ℕ
family_union [] = []
family_union (a ∷ family) = union a (family_union family)
