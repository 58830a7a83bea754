-- Partition matroids: classes that share no member, with a cap for each (Schrijver, chapter 39).
use Rattle.std.specs.Prelude.{◌≡◌, ℕ, ◌<◌, Bool, false, ◌==◌, if◌then◌else◌, Option, Some, None, List, [], length, slice_index, slice_index_or}
use Rattle.std.specs.List.{All}
use Rattle.mat_sets.specs.Sets.{is_member, AllBelow, intersection}
use Rattle.mat_sets.specs.Families.{AreDisjoint}

-- a number of elements, classes, and a cap for each class
pub record CappedClasses : Type 0 where
  pub count : ℕ
  pub classes : List (List ℕ)
  pub caps : List ℕ

-- there is a cap for each class, the members are elements, and no two classes share one
pub record IsPartition (count : ℕ) (classes : List (List ℕ)) (caps : List ℕ) : Type 0 where
  pub capped : length caps ≡ length classes
  pub inside : All (AllBelow count) classes
  pub disjoint : AreDisjoint classes

-- whether an entry of a table names this class
abbrev pub names : Option ℕ → ℕ → Bool
names None i = false
names (Some k) i = k == i

-- the table has an entry for each element, which names the class that the element stands in, or none
pub record IsClassTable (count : ℕ) (classes : List (List ℕ)) (table : List (Option ℕ)) : Type 0 where
  pub entries : length table ≡ count
  pub right : (e i : ℕ) → e < count → names (slice_index_or table e None) i ≡ is_member e (slice_index_or classes i [])

-- the table has this class at each of its members, and elsewhere what it had before
pub record IsClassEntered (before : List (Option ℕ)) (class : List ℕ) (place : ℕ) (table : List (Option ℕ)) : Type 0 where
  pub at : (e : ℕ) → e < length before
      → slice_index_or table e None ≡ (if is_member e class then Some place else slice_index_or before e None)

-- the numbers of members that X has in each class
pub record CountsMembers (classes : List (List ℕ)) (X numbers : List ℕ) : Type 0 where
  pub long : length numbers ≡ length classes
  pub at : (i : ℕ) → i < length classes → slice_index numbers i ≡ length (intersection X (slice_index_or classes i []))
