-- When the searches for augmenting walks of a matching may come one after the other (Schrijver, chapter 16).
use Rattle.std.specs.Prelude.{ℕ, List, length, is_none, Option}
use Rattle.mat_flow.specs.LinkTables.{entry_at}
use Rattle.mat_flow.specs.Seeking.{live_in, IsRoom, IsShut}
use Rattle.mat_flow.specs.declared.seeking.SearchRoom.{SearchRoom}
use Rattle.mat_linked.specs.Matchings.{is_held}

-- the room is for as many sets as the matching has entries; a set that no search comes to any more is matched, and no arc leads from it to a set that
-- a search may still come to
pub record IsReady (rows : List (List ℕ)) (matched : List (Option ℕ)) (room : SearchRoom) : Type 0 where
  pub fits : IsRoom (length matched) room
  pub shut : IsShut (length matched) (λ j. is_held rows (entry_at matched j)) (λ j. is_none (entry_at matched j)) (live_in room)
