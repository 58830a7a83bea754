-- What a search for moves asks of the rows, the parts and the elements, and the table of its arcs.
use Rattle.std.specs.Prelude.{◌≡◌, ℕ, ◌<◌, ◌^◌, Bool, true, List, [], length, slice_index_or}
use Rattle.mat_sets.specs.Sets.{is_member, IsSet, IsSubset}
use Rattle.mat_sets.specs.Families.{AreDisjoint, family_union}
use Rattle.mat_sets.specs.Rows.{row_at}
use Rattle.mat_laws.specs.declared.exchange.Exchange.{Exchange}
use Rattle.mat_laws.specs.Exchanges.{row_of}
use Rattle.mat_laws.specs.TightPaths.{row_in}
use Rattle.mat_union.specs.Unions.{part_at, test_at}
use Rattle.mat_union.specs.Moves.{can_push, exchanges_of}

-- each list has a row for u
pub record AreLong (u : ℕ) (rows : List (List Exchange)) : Type 0 where
  pub long : (i : ℕ) → i < length rows → u < length (slice_index_or rows i [])

-- there is one part for each list, the lists have one length n, the parts are pairwise disjoint and lie in within, which is below n, and
-- what an element can take the place of in part i lies in part i
pub record AreMovable (n : ℕ) (rows : List (List Exchange)) (parts : List (List ℕ)) (within : List ℕ) : Type 0 where
  pub one_each : length parts ≡ length rows
  pub long : (i : ℕ) → i < length rows → length (slice_index_or rows i []) ≡ n
  pub disjoint : AreDisjoint parts
  pub set : IsSet n within
  pub inside : IsSubset (family_union parts) within
  pub trades : (i x : ℕ) → i < length rows → IsSubset (row_in (slice_index_or rows i []) x).with (part_at parts i)

-- the i-th list has for each element of within its row at the i-th part
pub record AreRowsAt (tests : List (List ℕ → Bool)) (parts : List (List ℕ)) (within : List ℕ) (rows : List (List Exchange)) : Type 0 where
  pub each : (i x : ℕ) → i < length rows → is_member x within ≡ true
      → row_in (slice_index_or rows i []) x ≡ row_of (test_at tests i) (part_at parts i) x

-- for each element below n those whose place it can take
pub record IsPushTable (rows : List (List Exchange)) (n : ℕ) (table : List (List ℕ)) : Type 0 where
  pub long : length table ≡ n
  pub arcs : (u v : ℕ) → u < n → is_member v (row_at table u) ≡ can_push (length rows) (exchanges_of rows) u v

-- the table is that of the rows, and each list has a row for each element
pub record IsMoveGraph (rows : List (List Exchange)) (table : List (List ℕ)) : Type 0 where
  pub few : length table < 2 ^ 32
  pub long : (u : ℕ) → u < length table → AreLong u rows
  pub arcs : IsPushTable rows (length table) table
