-- Moves of elements between parts (Schrijver, chapter 42; Knuth 1973).
use Rattle.std.specs.Prelude.{◌≡◌, ℕ, suc, ◌<◌, ◌≤◌, Bool, true, false, not, ◌||◌, ◌&&◌, ◌==◌, List, [], length, map, filter, slice_index_or}
use Rattle.mat_sets.specs.Sets.{all_below, is_member, intersection, minus, union, with_one}
use Rattle.mat_sets.specs.Families.{family_union}
use Rattle.mat_sets.specs.Search.{some_below}
use Rattle.mat_sets.specs.Walks.{IsReachedSet}
use Rattle.mat_laws.specs.declared.exchange.Exchange.{Exchange}
use Rattle.mat_laws.specs.TightPaths.{Exchanges, exchanges_in, exchanges_at}
use Rattle.mat_union.specs.Unions.{part_at, test_at, AreParts}
use Rattle.mat_union.specs.declared.moves.Move.{Move}
use Rattle.mat_union.specs.declared.moves.Moves.{Moves}
use Rattle.mat_union.specs.declared.moves.Moves.TheVariants.{Path, Stuck}

-- the exchanges that the i-th list of rows tells
abbrev pub exchanges_of : List (List Exchange) → ℕ → Exchanges
exchanges_of rows i = exchanges_in (slice_index_or rows i [])

-- the exchanges of the i-th test at the i-th part
abbrev pub exchanges_with : List (List ℕ → Bool) → List (List ℕ) → ℕ → Exchanges
exchanges_with tests parts i = exchanges_at (test_at tests i) (part_at parts i)

-- whether e can take the place of f in some of the first m parts
abbrev pub can_push : ℕ → (ℕ → Exchanges) → ℕ → ℕ → Bool
can_push m exchanges e f = some_below m (λ i. (exchanges i).trades f e)

-- whether e can be added to some of the first m parts
abbrev pub can_enter : ℕ → (ℕ → Exchanges) → ℕ → Bool
can_enter m exchanges e = some_below m (λ i. (exchanges i).adds e)

-- whether x is one of these elements and in no part
abbrev pub is_free : List (List ℕ) → List ℕ → ℕ → Bool
is_free parts within x = is_member x within && not (is_member x (family_union parts))

-- what stands for a move behind the end of a list
abbrev pub no_move : Move
no_move = record { element = 0; part = 0 }

-- the element of the i-th move
abbrev pub element_at : List Move → ℕ → ℕ
element_at moves i = (slice_index_or moves i no_move).element

-- the part into which the i-th move leads
abbrev pub place_at : List Move → ℕ → ℕ
place_at moves i = (slice_index_or moves i no_move).part

-- moves, the first of an element that starts; each next element is one whose place the present element can take in the part of its
-- move, and the last element can be added to the part of its move
pub record IsMovePath (m : ℕ) (exchanges : ℕ → Exchanges) (start : ℕ → Bool) (moves : List Move) : Type 0 where
  pub steps : ℕ
  pub long : length moves ≡ suc steps
  pub places : (i : ℕ) → i < length moves → place_at moves i < m
  pub first : start (element_at moves 0) ≡ true
  pub next : (i : ℕ) → suc i < length moves → (exchanges (place_at moves i)).trades (element_at moves (suc i)) (element_at moves i) ≡ true
  pub last : (exchanges (place_at moves steps)).adds (element_at moves steps) ≡ true

-- a move path with fewest moves
pub record IsShortestMovePath (m : ℕ) (exchanges : ℕ → Exchanges) (start : ℕ → Bool) (moves : List Move) : Type 0 where
  pub path : IsMovePath m exchanges start moves
  pub fewest : (others : List Move) → IsMovePath m exchanges start others → length moves ≤ length others

-- there is no move path, and these are all elements that are reached from those that start, by steps to an element whose place can be taken
pub record IsStuck (n m : ℕ) (exchanges : ℕ → Exchanges) (start : ℕ → Bool) (reach : List ℕ) : Type 0 where
  pub reached : IsReachedSet n (can_push m exchanges) start reach
  pub no_path : (moves : List Move) → ¬ IsMovePath m exchanges start moves

-- the two ends of a search
abbrev pub IsMoves : ℕ → ℕ → (ℕ → Exchanges) → (ℕ → Bool) → Moves → Type 0
IsMoves n m exchanges start (Path moves) = IsShortestMovePath m exchanges start moves.items
IsMoves n m exchanges start (Stuck reach) = IsStuck n m exchanges start reach

-- the elements of the moves
abbrev pub elements : List Move → List ℕ
elements moves = map (λ m. m.element) moves

-- the elements of the moves into part q
abbrev pub entering : List Move → ℕ → List ℕ
entering moves q = map (λ m. m.element) (filter (λ m. m.part == q) moves)

-- part q after all moves at once: it loses what moves, and gains what moves into it
abbrev pub moved : List (List ℕ) → List Move → ℕ → List ℕ
moved parts moves q = union (entering moves q) (minus (part_at parts q) (elements moves))

-- all parts after all moves at once
abbrev pub all_moved : List (List ℕ) → List Move → List (List ℕ)
all_moved parts moves = map (moved parts moves) (all_below (length parts))

-- whether one of these moves leads into part q, or takes an element of this set away
abbrev pub is_entered_or_left : List Move → ℕ → List ℕ → Bool
is_entered_or_left moves q part = some_below (length moves) (λ i. place_at moves i == q || is_member (element_at moves i) part)

-- new parts, which together hold what the old ones held and one element more
pub record AreMoved (tests : List (List ℕ → Bool)) (parts : List (List ℕ)) (moves : List Move) (new : List (List ℕ)) : Type 0 where
  pub are : AreParts tests new
  pub each : (q : ℕ) → q < length new → part_at new q ≡ moved parts moves q
  pub together : family_union new ≡ with_one (family_union parts) (element_at moves 0)

-- the exchanges of an element that a search for moves tells, from parts of I within I and that element: after a path it can be added,
-- and takes any place; else it takes the places that were reached
abbrev pub row_found : List ℕ → Moves → Exchange
row_found I (Path moves) = record { addable = true; with = I }
row_found I (Stuck reach) = record { addable = false; with = intersection I reach }
