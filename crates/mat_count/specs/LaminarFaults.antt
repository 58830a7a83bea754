-- Why sets are no laminar family on so many elements: the first fault in the order in which they are looked for.
use Rattle.std.specs.Prelude.{◌≡◌, ℕ, ◌<◌, ◌≤◌, true, false, List, [], length, slice_index_or}
use Rattle.std.specs.List.{All}
use Rattle.mat_sets.specs.Sets.{is_member, AllBelow}
use Rattle.mat_count.specs.Laminar.{crosses}
use Rattle.mat_count.specs.declared.laminar_fault.LaminarFault.{LaminarFault}
use Rattle.mat_count.specs.declared.laminar_fault.LaminarFault.TheVariants.{OutOfRange, Crossing, Memory}

-- a is the least place of a set that crosses the next one
pub record IsFirstCrossing (sets : List (List ℕ)) (next : List ℕ) (a : ℕ) : Type 0 where
  pub listed : a < length sets
  pub crossed : crosses (slice_index_or sets a []) next ≡ true
  pub least : (k : ℕ) → k < a → crosses (slice_index_or sets k []) next ≡ false

-- no set crosses the next one
pub record NoneCrosses (sets : List (List ℕ)) (next : List ℕ) : Type 0 where
  pub none : (k : ℕ) → k < length sets → crosses (slice_index_or sets k []) next ≡ false

-- some set has a member that is not below count
pub record SomeOutside (count : ℕ) (sets : List (List ℕ)) : Type 0 where
  pub place : ℕ
  pub member : ℕ
  pub listed : place < length sets
  pub inside : is_member member (slice_index_or sets place []) ≡ true
  pub outside : count ≤ member

-- b is the least place of a set that an earlier one crosses, and a the least place of a set that crosses it
pub record IsFirstPair (sets : List (List ℕ)) (a b : ℕ) : Type 0 where
  pub before : a < b
  pub listed : b < length sets
  pub crossed : crosses (slice_index_or sets a []) (slice_index_or sets b []) ≡ true
  pub least_a : (k : ℕ) → k < a → crosses (slice_index_or sets k []) (slice_index_or sets b []) ≡ false
  pub least_b : (i j : ℕ) → i < j → j < b → crosses (slice_index_or sets i []) (slice_index_or sets j []) ≡ false

-- what each fault tells: a member is no element; else, where all are, the first two sets that cross; or want of memory
abbrev pub IsFaultOf : ℕ → List (List ℕ) → LaminarFault → Type 0
IsFaultOf count sets OutOfRange = SomeOutside count sets
IsFaultOf count sets (Crossing a b) = All (AllBelow count) sets × IsFirstPair sets a b
IsFaultOf count sets Memory = Unit {0}
