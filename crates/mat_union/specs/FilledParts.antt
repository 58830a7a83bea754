-- Parts that hold as many elements as any, with a cut that shows it (Schrijver, chapter 42).
use Rattle.std.specs.Prelude.{◌≡◌, ℕ, ◌+◌, Bool, List, length}
use Rattle.mat_sets.specs.Families.{family_union}
use Rattle.mat_sets.specs.Sets.{all_below, minus, IsSet, IsSubset}
use Rattle.mat_union.specs.Unions.{ranks_sum, AreParts}

-- parts that hold what the old ones held, and as many elements as the cut allows
pub record IsFilled (n : ℕ) (tests : List (List ℕ → Bool)) (old new : List (List ℕ)) (cut : List ℕ) : Type 0 where
  pub are : AreParts tests new
  pub holds : IsSubset (family_union old) (family_union new)
  pub set : IsSet n cut
  pub count : length (family_union new) ≡ length (minus (all_below n) cut) + ranks_sum tests cut
