-- What a graphic matroid keeps of a forest: for each vertex the way to the root of its tree (Schrijver, chapter 6).
use Rattle.std.specs.Prelude.{◌≡◌, ℕ, ◌<◌, true, List, length}
use Rattle.mat_sets.specs.Sets.{is_member}
use Rattle.mat_graphic.specs.TrailSearches.{IsOrder, IsTree}
use Rattle.mat_graphic.specs.declared.rooted_forest.RootedForest.{RootedForest}

-- all vertices are found, each but the roots through a member of the base that joins it to an earlier one, and each root is the first of its
-- component
pub record IsRootedForest (vertices : ℕ) (ends : ℕ → ℕ × ℕ) (base : List ℕ) (kept : RootedForest) : Type 0 where
  pub long : length kept.place.items ≡ vertices
  pub found : (v : ℕ) → v < vertices → is_member v kept.order.items ≡ true
  pub ordered : IsOrder kept.place.items kept.order.items kept.through.items kept.before.items
  pub tree : IsTree ends base kept.order.items kept.through.items kept.before.items
