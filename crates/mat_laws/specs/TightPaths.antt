-- Tight paths at a common independent set of two matroids, under two weights of each element (Frank 1981; Schrijver, chapter 41).
use Rattle.std.specs.Prelude.{◌≡◌, ℕ, Bool, true, false, not, ◌&&◌, ◌||◌, List, [], slice_index_or}
use Rattle.mat_sets.specs.Sets.{is_member, with_one, without_one, minus, union}
use Rattle.mat_sets.specs.Weights.{is_below, is_same}
use Rattle.mat_sets.specs.declared.weight.Weight.{Weight}
use Rattle.mat_sets.specs.Search.{some_below}
use Rattle.mat_sets.specs.Walks.{IsShortestWalk, IsReachedSet}
use Rattle.mat_laws.specs.declared.exchange.Exchange.{Exchange}

-- what can be added to an independent set, and exchanged at it: y and x trade where x outside can take the place of the member y
pub record Exchanges : Type 0 where
  pub adds : ℕ → Bool
  pub trades : ℕ → ℕ → Bool

-- the exchanges of a matroid at an independent set I
abbrev pub exchanges_at : (List ℕ → Bool) → List ℕ → Exchanges
exchanges_at independent I = record {
  adds = λ x. not (is_member x I) && independent (with_one I x);
  trades = λ y x. is_member y I && (not (is_member x I) && independent (with_one (without_one I y) x));
}

-- the row of x in a table of rows
abbrev pub row_in : List Exchange → ℕ → Exchange
row_in rows x = slice_index_or rows x (record { addable = false; with = [] })

-- the exchanges that a table of rows tells
abbrev pub exchanges_in : List Exchange → Exchanges
exchanges_in rows = record { adds = λ x. (row_in rows x).addable; trades = λ y x. is_member y (row_in rows x).with }

-- x can be added, and no element that can be added weighs more: with the exchanges and the weights of the first matroid x is
-- a source, and with those of the second a sink
abbrev pub is_heaviest_addable : ℕ → Exchanges → (ℕ → Weight) → ℕ → Bool
is_heaviest_addable n exchanges w x = exchanges.adds x && not (some_below n (λ e. exchanges.adds e && is_below (w x) (w e)))

-- a tight arc leads from a member y to an x outside that can take its place in the first matroid and weighs as much under the
-- first weight; and from an x outside to a member y whose place it can take in the second, and that weighs as much under the second
abbrev pub is_tight : Exchanges → Exchanges → (ℕ → Weight) → (ℕ → Weight) → ℕ → ℕ → Bool
is_tight first second w1 w2 u v = (first.trades u v && is_same (w1 u) (w1 v)) || (second.trades v u && is_same (w2 u) (w2 v))

-- a path along tight arcs from a source to a sink, with fewest vertices
abbrev pub IsTightPath : ℕ → Exchanges → Exchanges → (ℕ → Weight) → (ℕ → Weight) → List ℕ → Type 0
IsTightPath n first second w1 w2 path =
    IsShortestWalk n (is_tight first second w1 w2) (is_heaviest_addable n first w1) (is_heaviest_addable n second w2) path

-- the set of all elements that tight arcs reach from the sources, and no sink is among them
pub record IsStuckReach (n : ℕ) (first second : Exchanges) (w1 w2 : ℕ → Weight) (reach : List ℕ) : Type 0 where
  pub reached : IsReachedSet n (is_tight first second w1 w2) (is_heaviest_addable n first w1) reach
  pub no_sink : (v : ℕ) → is_member v reach ≡ true → is_heaviest_addable n second w2 v ≡ false

-- the set after an exchange along a path: the symmetric difference of I and the path
abbrev pub exchanged_along : List ℕ → List ℕ → List ℕ
exchanged_along I path = union (minus path I) (minus I path)
