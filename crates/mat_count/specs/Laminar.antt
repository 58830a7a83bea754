-- Laminar families: sets of which any two are apart, or one contains the other (Schrijver, chapter 13).
use Rattle.std.specs.Prelude.{◌≡◌, ℕ, ◌<◌, Bool, true, false, ◌&&◌, ◌||◌, nat_lt, List, [], ◌∷◌, length, slice_index_or}
use Rattle.mat_sets.specs.Sets.{is_member, minus, intersection}

-- whether two sets share a member and neither contains the other
unfoldable pub crosses : List ℕ → List ℕ → Bool
crosses A B = nat_lt 0 (length (intersection A B)) && (nat_lt 0 (length (minus A B)) && nat_lt 0 (length (minus B A)))

-- the same in words: there is a member of both, one of the first alone, and one of the second alone
pub record Crosses (A B : List ℕ) : Type 0 where
  pub shared : ℕ
  pub first : ℕ
  pub second : ℕ
  pub shared_in_first : is_member shared A ≡ true
  pub shared_in_second : is_member shared B ≡ true
  pub first_inside : is_member first A ≡ true
  pub first_outside : is_member first B ≡ false
  pub second_inside : is_member second B ≡ true
  pub second_outside : is_member second A ≡ false

-- whether some set of the list crosses the set
unfoldable pub is_crossed : List (List ℕ) → List ℕ → Bool
is_crossed [] B = false
is_crossed (A ∷ sets) B = crosses A B || is_crossed sets B

-- no two listed sets cross
pub record IsLaminarFamily (sets : List (List ℕ)) : Type 0 where
  pub nested : (i j : ℕ) → i < j → j < length sets → crosses (slice_index_or sets i []) (slice_index_or sets j []) ≡ false
