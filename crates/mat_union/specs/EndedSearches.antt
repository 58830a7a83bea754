-- Searches for moves at their end (Schrijver, chapter 42).
use Rattle.std.specs.Prelude.{◌≡◌, ℕ, Bool, true, false, List, length, None, ◌<◌, ◌≤◌}
use Rattle.mat_sets.specs.Families.{family_union}
use Rattle.mat_sets.specs.Sets.{is_member, AllBelow}
use Rattle.mat_union.specs.Moves.{exchanges_with}
use Rattle.mat_union.specs.MoveSearches.{IsQuestion, IsReaching}
use Rattle.mat_union.specs.Unions.{AreMatroids, AreParts}
use Rattle.mat_union.specs.declared.move_search.MoveSearch.{MoveSearch}

-- a search that can be asked for moves: no more elements are told than were reached, those that were reached are below the number of
-- elements, and where one can be added, it is one of them
pub record IsReady (s : MoveSearch) : Type 0 where
  pub told : length s.told.items ≤ length s.queue.items
  pub below : AllBelow s.elements s.queue.items
  pub asked : s.entered ≡ true → s.head < length s.queue.items

-- a search from x in no part, which may reach these elements and asks for nothing more
pub record IsEnded (n : ℕ) (tests : List (List ℕ → Bool)) (parts : List (List ℕ)) (among : List ℕ) (x : ℕ) (s : MoveSearch) : Type 0 where
  pub laws : AreMatroids n tests
  pub are : AreParts tests parts
  pub fresh : is_member x (family_union parts) ≡ false
  pub reaching : IsReaching n (length parts) (exchanges_with tests parts) among x s
  pub end : IsQuestion s None
