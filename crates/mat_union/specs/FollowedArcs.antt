-- Arcs between the elements of a union, each at the element to which it leads, and what is reached along them (Schrijver, chapter 42).
use Rattle.std.specs.Prelude.{◌≡◌, ℕ, Bool, true, not, ◌||◌, ◌&&◌, ◌==◌, ◌⊎◌, List, length}
use Rattle.mat_sets.specs.Rows.{row_at}
use Rattle.mat_sets.specs.Sets.{is_member}
use Rattle.mat_laws.specs.TightPaths.{Exchanges}
use Rattle.mat_union.specs.Moves.{can_enter, can_push}
use Rattle.mat_union.specs.declared.exchange_arcs.ExchangeArcs.{ExchangeArcs}

-- a set is put into the row at a place
pub record IsRowUnited (at : ℕ) (more : List ℕ) (before after : List (List ℕ)) : Type 0 where
  pub count : length after ≡ length before
  pub members : (y z : ℕ) → is_member z (row_at after y) ≡ (is_member z (row_at before y) || (y == at && is_member z more))

-- each row is put into the row at its place
pub record AreRowsUnited (more before after : List (List ℕ)) : Type 0 where
  pub count : length after ≡ length before
  pub members : (y z : ℕ) → is_member z (row_at after y) ≡ (is_member z (row_at before y) || is_member z (row_at more y))

-- the row of v is put into each row at these places in which v is
pub record ArePassed (v : ℕ) (places : List ℕ) (before after : List (List ℕ)) : Type 0 where
  pub count : length after ≡ length before
  pub members : (y z : ℕ) → is_member z (row_at after y)
      ≡ (is_member z (row_at before y) || (is_member y places && (is_member v (row_at before y) && is_member z (row_at before v))))

-- the rows hold what they held; at these places a row that holds v holds all that the row of v holds; and whatever is so of an element of a row,
-- and along all arcs that were there, is so of the element whose row it is
pub record AreFollowed (places : List ℕ) (before after : List (List ℕ)) : Type 0 where
  pub count : length after ≡ length before
  pub held : (y z : ℕ) → is_member z (row_at before y) ≡ true → is_member z (row_at after y) ≡ true
  pub on : (v y z : ℕ) → is_member v places ≡ true → is_member y places ≡ true → is_member v (row_at after y) ≡ true
      → is_member z (row_at after v) ≡ true → is_member z (row_at after y) ≡ true
  pub least : (test : ℕ → Bool) → ((u v : ℕ) → test u ≡ true → is_member u (row_at before v) ≡ true → test v ≡ true)
      → (y z : ℕ) → is_member z (row_at after y) ≡ true → test z ≡ true → test y ≡ true

-- the elements of a set, and the rows at those of these members that are in it
pub record AreAdded (entering members : List ℕ) (rows : List (List ℕ)) (added : List ℕ) : Type 0 where
  pub kept : (z : ℕ) → is_member z entering ≡ true → is_member z added ≡ true
  pub through : (y z : ℕ) → is_member y members ≡ true → is_member y entering ≡ true → is_member z (row_at rows y) ≡ true → is_member z added ≡ true
  pub only : (z : ℕ) → is_member z added ≡ true → (is_member z entering ≡ true)
      ⊎ ((y : ℕ) × (is_member y members ≡ true) × (is_member y entering ≡ true) × (is_member z (row_at rows y) ≡ true))

-- at these members the rows together with what is added, but for what is left out, and nothing at the others
pub record AreColumnsOf (members : List ℕ) (rows : List (List ℕ)) (added out : List ℕ) (columns : List (List ℕ)) : Type 0 where
  pub count : length columns ≡ length rows
  pub at : (y z : ℕ) → is_member z (row_at columns y)
      ≡ (is_member y members && ((is_member z (row_at rows y) || is_member z added) && not (is_member z out)))

-- each element has those that can take its place in some of the first m parts, and those that can be added to some are told
pub record AreArcs (n m : ℕ) (exchanges : ℕ → Exchanges) (arcs : ExchangeArcs) : Type 0 where
  pub count : length arcs.into.items ≡ n
  pub into : (y z : ℕ) → is_member z (row_at arcs.into.items y) ≡ can_push m exchanges z y
  pub enters : (x : ℕ) → is_member x arcs.entering ≡ can_enter m exchanges x

-- each of these members has the elements that reach it along at least one arc, and those that can be added to some part are told
pub record AreReached (n m : ℕ) (exchanges : ℕ → Exchanges) (members : List ℕ) (arcs : ExchangeArcs) : Type 0 where
  pub count : length arcs.into.items ≡ n
  pub first : (y z : ℕ) → can_push m exchanges z y ≡ true → is_member z (row_at arcs.into.items y) ≡ true
  pub on : (v y z : ℕ) → is_member v members ≡ true → is_member y members ≡ true → is_member v (row_at arcs.into.items y) ≡ true
      → is_member z (row_at arcs.into.items v) ≡ true → is_member z (row_at arcs.into.items y) ≡ true
  pub least : (test : ℕ → Bool) → ((u v : ℕ) → test u ≡ true → can_push m exchanges u v ≡ true → test v ≡ true)
      → (y z : ℕ) → is_member z (row_at arcs.into.items y) ≡ true → test z ≡ true → test y ≡ true
  pub enters : (x : ℕ) → is_member x arcs.entering ≡ can_enter m exchanges x
