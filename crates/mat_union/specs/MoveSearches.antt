-- A search for moves from one element, which asks for the exchanges of the elements that it reaches (Schrijver, chapter 42).
use Rattle.std.specs.Prelude.{◌≡◌, ℕ, suc, ◌+◌, ◌*◌, ◌-◌, ◌<◌, ◌≤◌, Bool, true, false, not, ◌&&◌, ◌||◌, ◌==◌, if◌then◌else◌, List, [], ◌++◌, length, slice_index_or, take, Option, None, Some}
use Rattle.mat_sets.specs.Rows.{row_at}
use Rattle.mat_sets.specs.Sets.{is_member}
use Rattle.mat_laws.specs.declared.exchange.Exchange.{Exchange}
use Rattle.mat_laws.specs.TightPaths.{Exchanges}
use Rattle.mat_sets.specs.Families.{AreDisjoint}
use Rattle.mat_union.specs.Moves.{can_enter, can_push, element_at, elements, place_at, AreMoved}
use Rattle.mat_union.specs.Unions.{part_at}
use Rattle.mat_union.specs.declared.moves.Move.{Move}
use Rattle.mat_union.specs.declared.move_search.MoveSearch.{MoveSearch}
use Rattle.mat_union.specs.declared.move_search.Question.{Question}

-- the unreached elements among these are put at the end of the queue
pub record AreTaken (pushes unreached queue rest more : List ℕ) : Type 0 where
  pub found : List ℕ
  pub behind : more ≡ queue ++ found
  pub found_is : (v : ℕ) → is_member v found ≡ (is_member v unreached && is_member v pushes)
  pub rest_is : (v : ℕ) → is_member v rest ≡ (is_member v unreached && not (is_member v pushes))
  pub fuel : length more + length rest ≤ length queue + length unreached

-- the next element of a search, whose exchanges are asked for
abbrev pub element_asked : MoveSearch → ℕ
element_asked s = slice_index_or s.queue.items s.head 0

-- some exchanges are asked for
pub record IsOpen (s : MoveSearch) : Type 0 where
  pub more : s.head < length s.queue.items

-- what is asked for: nothing, once an element can be added or all that were reached are told
abbrev pub IsQuestion : MoveSearch → Option Question → Type 0
IsQuestion s None = s.entered ≡ false → length s.queue.items ≤ s.head
IsQuestion s (Some q) = (s.entered ≡ false) × (s.head < length s.queue.items) × (q.element ≡ element_asked s) × (q.part ≡ s.part)

-- the exchanges that are asked for
pub record IsAnswered (exchanges : ℕ → Exchanges) (s : MoveSearch) (row : Exchange) : Type 0 where
  pub adds : row.addable ≡ (exchanges s.part).adds (element_asked s)
  pub trades : (v : ℕ) → is_member v row.with ≡ (exchanges s.part).trades v (element_asked s)

-- what is known where the exchanges at m parts are told of the first `head` elements of the queue, and those of the next one at the first
-- `parts_told` parts: there is a row for each that is told, of those whose place it can take; those that are told cannot be added, and what
-- they can take the place of is in the queue or not among those to be reached; and whatever holds of the start, and of what a told element
-- of which it holds can take the place of, holds of each element that was reached
pub record IsReachingTo (n m : ℕ) (exchanges : ℕ → Exchanges) (among : List ℕ) (start parts_told head : ℕ) (queue pushes unreached : List ℕ) (rows : List (List ℕ)) : Type 0 where
  pub long : length rows ≡ head
  pub told_some : head ≤ length queue
  pub first : is_member start queue ≡ true
  pub below : (v : ℕ) → is_member v queue ≡ true → v < n
  pub among_below : (v : ℕ) → is_member v among ≡ true → v < n
  pub inside : (v : ℕ) → is_member v unreached ≡ true → is_member v among ≡ true
  pub reached : (v : ℕ) → is_member v queue ≡ true → (v == start || is_member v among) ≡ true
  pub left : (v : ℕ) → is_member v among ≡ true → is_member v unreached ≡ false → is_member v queue ≡ true
  pub told : (k v : ℕ) → k < head → is_member v (row_at rows k) ≡ can_push m exchanges (slice_index_or queue k 0) v
  pub refused : (u : ℕ) → is_member u (take head queue) ≡ true → can_enter m exchanges u ≡ false
  pub closed : (u v : ℕ) → is_member u (take head queue) ≡ true → can_push m exchanges u v ≡ true → is_member v unreached ≡ false
  pub pushed : (v : ℕ) → is_member v pushes ≡ can_push parts_told exchanges (slice_index_or queue head 0) v
  pub none : can_enter parts_told exchanges (slice_index_or queue head 0) ≡ false
  pub least : (test : ℕ → Bool) → test start ≡ true
      → ((u v : ℕ) → test u ≡ true → is_member u (take head queue) ≡ true → can_push m exchanges u v ≡ true → test v ≡ true)
      → (v : ℕ) → is_member v queue ≡ true → test v ≡ true
  pub fuel : length queue + length unreached ≤ suc (length among)

-- a search between two questions
pub record IsReaching (n m : ℕ) (exchanges : ℕ → Exchanges) (among : List ℕ) (start : ℕ) (s : MoveSearch) : Type 0 where
  pub from_start : s.start ≡ start
  pub size : s.elements ≡ n
  pub count : s.count ≡ m
  pub here : s.part < m
  pub so_far : IsReachingTo n m exchanges among start s.part s.head s.queue.items s.pushes s.unreached s.told.items
  pub enters : s.entered ≡ true → (s.head < length s.queue.items) × ((exchanges s.part).adds (element_asked s) ≡ true)

-- a search that is told all exchanges of the next element, and that it cannot be added
pub record AreAnswered (n m : ℕ) (exchanges : ℕ → Exchanges) (among : List ℕ) (start : ℕ) (s : MoveSearch) : Type 0 where
  pub from_start : s.start ≡ start
  pub size : s.elements ≡ n
  pub count : s.count ≡ m
  pub some : 0 < m
  pub refused : s.entered ≡ false
  pub so_far : IsReachingTo n m exchanges among start m s.head s.queue.items s.pushes s.unreached s.told.items

-- how many questions there can still be, where a queue has at most `bound` elements
abbrev pub left_over : Bool → ℕ → ℕ → ℕ → ℕ → ℕ
left_over entered bound head count part = if entered then 0 else suc ((bound - head) * count + (count - part))

-- how many questions a search among these elements can still have
abbrev pub questions_left : List ℕ → MoveSearch → ℕ
questions_left among s = left_over s.entered (suc (length among)) s.head s.count s.part

-- a table of n rows in which what is told of the first elements of the queue, `count` of them, stands at these, and nothing at the others
pub record IsToldTable (n count : ℕ) (queue : List ℕ) (told table : List (List ℕ)) : Type 0 where
  pub size : length table ≡ n
  pub held : (u : ℕ) → is_member u (take count queue) ≡ true
      → (k : ℕ) × (k < count) × (slice_index_or queue k 0 ≡ u) × (row_at table u ≡ row_at told k)
  pub empty : (u : ℕ) → is_member u (take count queue) ≡ false → row_at table u ≡ []

-- moves along a walk: each element goes to the part that holds the next one, and the last to a part that is given
pub record AreMovesAt (parts : List (List ℕ)) (walk : List ℕ) (last : ℕ) (moves : List Move) : Type 0 where
  pub long : length moves ≡ length walk
  pub elements : (i : ℕ) → i < length walk → element_at moves i ≡ slice_index_or walk i 0
  pub places : (i q : ℕ) → suc i < length walk → AreDisjoint parts → q < length parts
      → is_member (slice_index_or walk (suc i) 0) (part_at parts q) ≡ true → place_at moves i ≡ q
  pub last_place : (i : ℕ) → suc i ≡ length walk → place_at moves i ≡ last

-- moves that add the start of a search to the parts, of elements that it reached
pub record AreFoundMoves (tests : List (List ℕ → Bool)) (parts : List (List ℕ)) (s : MoveSearch) (moves : List Move) : Type 0 where
  pub new : List (List ℕ)
  pub moved : AreMoved tests parts moves new
  pub first : element_at moves 0 ≡ s.start
  pub reached : (z : ℕ) → is_member z (elements moves) ≡ true → is_member z s.queue.items ≡ true
