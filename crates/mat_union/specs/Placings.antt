-- One more element comes into the parts, or a search from it is stuck (Schrijver, chapter 42).
use Rattle.std.specs.Prelude.{◌≡◌, ℕ, ◌<◌, ◌≤◌, Bool, true, false, ◌||◌, ◌==◌, List, length, Option, None, Some}
use Rattle.mat_sets.specs.Families.{family_union}
use Rattle.mat_sets.specs.Sets.{is_member, with_one}
use Rattle.mat_union.specs.Moves.{all_moved, exchanges_with}
use Rattle.mat_union.specs.MoveSearches.{IsReaching}
use Rattle.mat_union.specs.Unions.{part_at, union_test, AreParts}
use Rattle.mat_union.specs.declared.move_search.MoveSearch.{MoveSearch}
use Rattle.mat_union.specs.declared.ended.PlaceSearch.{PlaceSearch}
use Rattle.mat_union.specs.declared.ended.PlaceSearch.TheVariants.{Placed, Stuck}

-- new parts that hold x too; of the other elements only those among these have moved
pub record ArePlaced (tests : List (List ℕ → Bool)) (parts : List (List ℕ)) (among : List ℕ) (x : ℕ) (new : List (List ℕ)) : Type 0 where
  pub are : AreParts tests new
  pub together : family_union new ≡ with_one (family_union parts) x
  pub others : (q z : ℕ) → q < length new → (z == x || is_member z among) ≡ false → is_member z (part_at new q) ≡ is_member z (part_at parts q)

-- a search from x that is told all that it reached, and found no moves
pub record IsStuckSearch (n : ℕ) (tests : List (List ℕ → Bool)) (parts : List (List ℕ)) (among : List ℕ) (x : ℕ) (s : MoveSearch) : Type 0 where
  pub reaching : IsReaching n (length parts) (exchanges_with tests parts) among x s
  pub end : length s.queue.items ≤ s.head

-- moves after which the parts hold x too, or a search from x that is stuck
abbrev pub IsPlaceSearch : ℕ → List (List ℕ → Bool) → List (List ℕ) → List ℕ → ℕ → PlaceSearch → Type 0
IsPlaceSearch n tests parts among x (Placed moves) = ArePlaced tests parts among x (all_moved parts moves.items)
IsPlaceSearch n tests parts among x (Stuck s) = IsStuckSearch n tests parts among x s

-- x has come into the parts, or they are as they were and a search from x is stuck
abbrev pub IsPlacing : ℕ → List (List ℕ → Bool) → List (List ℕ) → List ℕ → ℕ → List (List ℕ) → Option MoveSearch → Type 0
IsPlacing n tests parts among x new None = ArePlaced tests parts among x new
IsPlacing n tests parts among x new (Some s) = (new ≡ parts) × IsStuckSearch n tests parts among x s

-- whether x is in the new parts: they hold what the old ones held and x, or x cannot be added to that
abbrev pub IsBrought : ℕ → List (List ℕ → Bool) → List (List ℕ) → ℕ → List (List ℕ) → Bool → Type 0
IsBrought n tests parts x new true = (v : ℕ) → is_member v (family_union new) ≡ (v == x || is_member v (family_union parts))
IsBrought n tests parts x new false = union_test n tests (with_one (family_union parts) x) ≡ false
