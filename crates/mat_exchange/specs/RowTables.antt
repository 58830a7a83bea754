-- Tables of rows that are kept as sets, with the columns beside them. The row of an element that can be added is the whole base, and is not
-- written down.
use Rattle.std.specs.Prelude.{◌≡◌, ℕ, ◌<◌, Bool, true, false, not, nat_lt, ◌&&◌, ◌||◌, if◌then◌else◌, List, [], length, map}
use Rattle.mat_sets.specs.Rows.{row_at}
use Rattle.mat_sets.specs.Sets.{is_member, all_below}
use Rattle.mat_laws.specs.declared.exchange.Exchange.{Exchange}
use Rattle.mat_laws.specs.TightPaths.{Exchanges, row_in}

-- the row of x, by the base, the set of the addable elements and the sets of those that each of the others can be exchanged for
abbrev pub row_from : List ℕ → List ℕ → List (List ℕ) → ℕ → Exchange
row_from base addable rows x = record { addable = is_member x addable; with = if is_member x addable then base else row_at rows x }

-- the rows in order
abbrev pub table_of : List ℕ → List ℕ → List (List ℕ) → List Exchange
table_of base addable rows = map (row_from base addable rows) (all_below (length rows))

-- the columns are the transpose of the rows that are written down, and only elements that have a row are addable
pub record AreTransposed (addable : List ℕ) (rows columns : List (List ℕ)) : Type 0 where
  pub below : (x : ℕ) → is_member x addable ≡ true → x < length rows
  pub count : length columns ≡ length rows
  pub bare : (x : ℕ) → is_member x addable ≡ true → row_at rows x ≡ []
  pub transposed : (x y : ℕ) → y < length rows → is_member x (row_at columns y) ≡ is_member y (row_at rows x)

-- what is written down of a row
abbrev pub written : Exchange → List ℕ
written row = if row.addable then [] else row.with

-- whether k is below x or its row was not missing at the beginning
abbrev pub entered_to : List ℕ → ℕ → ℕ → Bool
entered_to missing x k = nat_lt k x || not (is_member k missing)

-- the rows of these elements are entered, and no others are
pub record IsFilledTable (exchanges : List Exchange) (entered : ℕ → Bool) (addable : List ℕ) (rows columns : List (List ℕ)) : Type 0 where
  pub count : length rows ≡ length exchanges
  pub adds : (k : ℕ) → is_member k addable ≡ (entered k && (row_in exchanges k).addable)
  pub same : (k : ℕ) → entered k ≡ true → row_at rows k ≡ written (row_in exchanges k)
  pub missing_yet : (k : ℕ) → entered k ≡ false → row_at rows k ≡ []
  pub columns_count : length columns ≡ length exchanges
  pub transposed : (k y : ℕ) → y < length exchanges → is_member k (row_at columns y)
      ≡ (entered k && (not (row_in exchanges k).addable && is_member y (row_in exchanges k).with))

-- two lists have the same rows of these elements
abbrev pub AgreeOn : List ℕ → List Exchange → List Exchange → Type 0
AgreeOn elements first second = (x : ℕ) → x < length second → is_member x elements ≡ true → row_in first x ≡ row_in second x

-- the row of each addable element is the whole base
pub record AreWhole (base : List ℕ) (exchanges : List Exchange) : Type 0 where
  pub whole : (x : ℕ) → (row_in exchanges x).addable ≡ true → (row_in exchanges x).with ≡ base

-- all elements that can be added can be exchanged for the same members
abbrev pub AreAlike : Exchanges → Type 0
AreAlike exchanges = (y x z : ℕ) → exchanges.adds x ≡ true → exchanges.adds z ≡ true → exchanges.trades y x ≡ exchanges.trades y z

-- when some elements come to a set and some members leave it, the lost ones, whose written rows may change, are at least these of the elements that
-- could not be added: the ones that come, and those that could be exchanged for a member that leaves
pub record AreLost (before : Exchanges) (came left lost : List ℕ) : Type 0 where
  pub came_lost : (x : ℕ) → is_member x came ≡ true → before.adds x ≡ false → is_member x lost ≡ true
  pub left_lost : (y x : ℕ) → is_member y left ≡ true → before.adds x ≡ false → before.trades y x ≡ true → is_member x lost ≡ true
