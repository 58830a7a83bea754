-- Laminar matroids: sets of which no two cross, with a cap for each (Schrijver, chapters 13 and 39).
use Rattle.std.specs.Prelude.{◌≡◌, ℕ, ◌<◌, ◌&&◌, ◌||◌, ◌==◌, List, [], length, slice_index_or}
use Rattle.std.specs.List.{All}
use Rattle.mat_sets.specs.Sets.{is_member, AllBelow}
use Rattle.mat_count.specs.Laminar.{IsLaminarFamily}

-- a number of elements, sets, and a cap for each set
pub record CappedSets : Type 0 where
  pub count : ℕ
  pub sets : List (List ℕ)
  pub caps : List ℕ

-- there is a cap for each set, the members are elements, and no two sets cross
pub record IsLaminar (count : ℕ) (sets : List (List ℕ)) (caps : List ℕ) : Type 0 where
  pub capped : length caps ≡ length sets
  pub inside : All (AllBelow count) sets
  pub family : IsLaminarFamily sets

-- the table has for each element the places of the sets that hold it
pub record IsPlaceTable (count : ℕ) (sets table : List (List ℕ)) : Type 0 where
  pub entries : length table ≡ count
  pub right : (e i : ℕ) → e < count → is_member i (slice_index_or table e []) ≡ is_member e (slice_index_or sets i [])

-- the table has this place at each member of the set, besides those that it had before
pub record IsPlaced (before : List (List ℕ)) (set : List ℕ) (place : ℕ) (table : List (List ℕ)) : Type 0 where
  pub at : (e i : ℕ) → e < length before
      → is_member i (slice_index_or table e []) ≡ ((is_member e set && i == place) || is_member i (slice_index_or before e []))
