-- The partition matroid whose classes are the elements with one label each, such as the head of an arc or the colour of an edge, with a
-- cap for each label (Schrijver, chapter 39).
use Rattle.std.specs.Prelude.{◌≡◌, ℕ, Bool, true, ◌==◌, List, map}
use Rattle.mat_sets.specs.Sets.{is_member, all_below}
use Rattle.mat_sets.specs.Search.{those_below}
use Rattle.mat_count.specs.Counts.{is_counted}

-- the elements below n with this label
abbrev pub labelled : ℕ → (ℕ → ℕ) → ℕ → List ℕ
labelled n label c = those_below n (λ e. label e == c)

-- for each label below k, the elements below n that have it
unfoldable pub classes_by : ℕ → ℕ → (ℕ → ℕ) → List (List ℕ)
classes_by n k label = map (labelled n label) (all_below k)

-- for each label below k, its cap
unfoldable pub caps_by : ℕ → (ℕ → ℕ) → List ℕ
caps_by k cap = map cap (all_below k)

-- the cap 1 for each label
abbrev pub one_each : ℕ → ℕ
one_each c = 1

-- the partition matroid: at most its cap of elements of each label below k
abbrev pub is_labelled : ℕ → ℕ → (ℕ → ℕ) → (ℕ → ℕ) → List ℕ → Bool
is_labelled n k label cap X = is_counted n (classes_by n k label) (caps_by k cap) X

-- no two members of X have one label
pub record AreApart (label : ℕ → ℕ) (X : List ℕ) : Type 0 where
  pub apart : (e f : ℕ) → is_member e X ≡ true → is_member f X ≡ true → label e ≡ label f → e ≡ f
