-- The partition matroid with one class for each label, and the cap 1 for each (Schrijver, chapter 39).
use Rattle.std.specs.Prelude.{◌≡◌, ℕ, Bool, true, List}
use Rattle.mat_sets.specs.Sets.{is_member}
use Rattle.mat_count.specs.Labels.{is_labelled, one_each}

-- at most one element of each label below k
abbrev pub is_once : ℕ → ℕ → (ℕ → ℕ) → List ℕ → Bool
is_once n k label X = is_labelled n k label one_each X

-- the labels of the members of X, and no others
pub record AreLabelsOf (label : ℕ → ℕ) (X C : List ℕ) : Type 0 where
  pub given : (c : ℕ) → is_member c C ≡ true → (e : ℕ) × (is_member e X ≡ true) × (label e ≡ c)
  pub held : (e : ℕ) → is_member e X ≡ true → is_member (label e) C ≡ true
