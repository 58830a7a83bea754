-- Packings of disjoint bases and coverings by independent sets (Edmonds; Schrijver, chapter 42).
use Rattle.std.specs.Prelude.{◌≡◌, ℕ, ◌<◌, ◌+◌, ◌-◌, ◌*◌, Bool, true, List, length, Option, MatchOption}
use Rattle.mat_sets.specs.Sets.{all_below, is_member, minus, IsSet}
use Rattle.mat_sets.specs.Families.{AreDisjoint, family_union}
use Rattle.mat_laws.specs.Matroids.{IsBase}
use Rattle.mat_laws.specs.Ranks.{rank}
use Rattle.mat_union.specs.Unions.{part_at}

-- pairwise disjoint bases
pub record AreBases (n : ℕ) (independent : List ℕ → Bool) (bases : List (List ℕ)) : Type 0 where
  pub disjoint : AreDisjoint bases
  pub each : (i : ℕ) → i < length bases → IsBase n independent (part_at bases i)

-- disjoint bases, and a set A that shows that there are no more of them: fewer elements are outside A than one base more would need
pub record IsRightPacking (n : ℕ) (independent : List ℕ → Bool) (bases : List (List ℕ)) (cut : List ℕ) : Type 0 where
  pub are : AreBases n independent bases
  pub set : IsSet n cut
  pub short : length (minus (all_below n) cut) < (length bases + 1) * (rank independent (all_below n) - rank independent cut)

-- independent sets in which each element stands
pub record IsCover (n : ℕ) (independent : List ℕ → Bool) (sets : List (List ℕ)) : Type 0 where
  pub passes : (i : ℕ) → i < length sets → independent (part_at sets i) ≡ true
  pub all : (x : ℕ) → x < n → is_member x (family_union sets) ≡ true

-- a set A that shows that no fewer than so many sets cover the elements: one set fewer has no room for A
pub record IsCoverCut (n : ℕ) (independent : List ℕ → Bool) (sets : ℕ) (cut : List ℕ) : Type 0 where
  pub set : IsSet n cut
  pub long : (sets - 1) * rank independent cut < length cut

-- independent sets in which each element stands, none of them or with such a cut
pub record IsRightCovering (n : ℕ) (independent : List ℕ → Bool) (sets : List (List ℕ)) (cut : Option (List ℕ)) : Type 0 where
  pub cover : IsCover n independent sets
  pub least : MatchOption cut (length sets ≡ 0) (λ A. (0 < length sets) × IsCoverCut n independent (length sets) A)
