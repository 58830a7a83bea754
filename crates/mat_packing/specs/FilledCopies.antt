-- Disjoint independent sets of one matroid that hold as many elements together as any so many of them, with a cut that shows it.
use Rattle.std.specs.Prelude.{◌≡◌, ℕ, ◌+◌, ◌*◌, ◌<◌, Bool, true, List, length}
use Rattle.mat_sets.specs.Families.{AreDisjoint, family_union}
use Rattle.mat_sets.specs.Sets.{all_below, minus, IsSet}
use Rattle.mat_laws.specs.Ranks.{rank}
use Rattle.mat_union.specs.Unions.{part_at}

-- so many disjoint independent sets that hold as many elements as the cut allows (Schrijver, chapter 42)
pub record AreFilledCopies (n : ℕ) (independent : List ℕ → Bool) (count : ℕ) (sets : List (List ℕ)) (cut : List ℕ) : Type 0 where
  pub long : length sets ≡ count
  pub disjoint : AreDisjoint sets
  pub passes : (i : ℕ) → i < length sets → independent (part_at sets i) ≡ true
  pub set : IsSet n cut
  pub size : length (family_union sets) ≡ length (minus (all_below n) cut) + count * rank independent cut
