-- The paths that a table of the vertices after each vertex holds, read from their starts.
use Rattle.std.specs.Prelude.{◌≡◌, ◌≢◌, ℕ, suc, ◌<◌, true, List, length, slice_index, Option, Some, None}
use Rattle.std.specs.List.{All, concat}
use Rattle.mat_sets.specs.Sets.{is_member, AreDistinct}
use Rattle.mat_flow.specs.LinkTables.{entry_at, starts_among}

-- the vertex after each vertex, where the other table has the vertex before each
pub record IsReversed (before after : List (Option ℕ)) : Type 0 where
  pub long : length after ≡ length before
  pub turned : (u v : ℕ) → entry_at after u ≡ Some v → entry_at before v ≡ Some u
  pub none : (u v : ℕ) → u < length after → entry_at after u ≡ None → entry_at before v ≢ Some u

-- the start, the vertex after it, and so on to a vertex that has none after it
pub record IsTrail (after : List (Option ℕ)) (start : ℕ) (path : List ℕ) : Type 0 where
  pub some : 0 < length path
  pub first : slice_index path 0 ≡ start
  pub steps : (i : ℕ) → suc i < length path → entry_at after (slice_index path i) ≡ Some (slice_index path (suc i))
  pub last : (i : ℕ) → suc i ≡ length path → entry_at after (slice_index path i) ≡ None

-- a path from one of these vertices that has none before it
pub record IsTrailAmong (before after : List (Option ℕ)) (among path : List ℕ) : Type 0 where
  pub start : ℕ
  pub member : is_member start among ≡ true
  pub none_before : entry_at before start ≡ None
  pub trail : IsTrail after start path

-- the paths from those of these vertices that have none before them, one for each, without a common vertex
pub record AreTrails (before after : List (Option ℕ)) (among : List ℕ) (paths : List (List ℕ)) : Type 0 where
  pub each : All (IsTrailAmong before after among) paths
  pub distinct : AreDistinct (concat paths)
  pub count : length paths ≡ starts_among before among
