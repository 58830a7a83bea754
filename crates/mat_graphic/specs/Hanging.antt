-- The algorithm's own notions, by which its private functions are told: a rooted forest that gets one edge more, below one end of which the tree of
-- the other end is hung.
use Rattle.std.specs.Prelude.{◌≡◌, ℕ, ◌<◌, Bool, true, false, ◌==◌, ◌||◌, List, length, slice_index, slice_index_or}
use Rattle.mat_sets.specs.Graphs.{Joins}
use Rattle.mat_sets.specs.Sets.{is_member}
use Rattle.mat_graphic.specs.Mergings.{least_merged}
use Rattle.mat_graphic.specs.TrailSearches.{IsFront, IsOrder, IsTree}
use Rattle.mat_graphic.specs.declared.rooted_forest.RootedForest.{RootedForest}

-- for each place whether it lies in the tree with this root: a root that is the one, or any other place if the one before it does
pub record AreFlags (before : List ℕ) (root : ℕ) (inside : List Bool) : Type 0 where
  pub long : length inside ≡ length before
  pub root_is : (k : ℕ) → k < length before → slice_index before k ≡ k → slice_index_or inside k false ≡ (k == root)
  pub same : (k : ℕ) → k < length before → slice_index before k < k → slice_index_or inside k false ≡ slice_index_or inside (slice_index before k) false

-- all members of X are members of Y, and vertices outside the tree that are in two components of X are in two of Y
pub record StayApart (ends : ℕ → ℕ × ℕ) (X Y order : List ℕ) (inside : List Bool) : Type 0 where
  pub more : (z : ℕ) → is_member z X ≡ true → is_member z Y ≡ true
  pub apart : (j k : ℕ) → j < length order → k < length order → slice_index_or inside j false ≡ false → slice_index_or inside k false ≡ false
      → least_merged ends Y (slice_index order j) ≡ least_merged ends Y (slice_index order k)
      → least_merged ends X (slice_index order j) ≡ least_merged ends X (slice_index order k)

-- of the first places those outside the tree are found, and nothing else
pub record IsCopied (forest : RootedForest) (inside : List Bool) (count : ℕ) (new : RootedForest) : Type 0 where
  pub long : length new.place.items ≡ length forest.place.items
  pub ordered : IsOrder new.place.items new.order.items new.through.items new.before.items
  pub come : (v : ℕ) → is_member v new.order.items ≡ true
      → (k : ℕ) × (k < count) × (slice_index_or inside k false ≡ false) × (slice_index forest.order.items k ≡ v)
  pub found : (k : ℕ) → k < count → slice_index_or inside k false ≡ false → is_member (slice_index forest.order.items k) new.order.items ≡ true
  pub tree : (ends : ℕ → ℕ × ℕ) (X Y : List ℕ) → IsTree ends X forest.order.items forest.through.items forest.before.items
      → StayApart ends X Y forest.order.items inside → IsTree ends Y new.order.items new.through.items new.before.items

-- the vertices on the way from `second` up are found, if it ends at the root this root too; where the new edge joins `second` to `first`, the
-- vertices found so far stay those of a forest
pub record IsTurned (forest : RootedForest) (root edge first second : ℕ) (old : RootedForest) (ends_there : Bool) (new : RootedForest) : Type 0 where
  pub long : length new.place.items ≡ length old.place.items
  pub ordered : IsOrder new.place.items new.order.items new.through.items new.before.items
  pub front : IsFront old.order.items new.order.items
  pub root_found : ends_there ≡ true → is_member (slice_index forest.order.items root) new.order.items ≡ true
  pub tree : (ends : ℕ → ℕ × ℕ) (X Y : List ℕ) → IsTree ends X forest.order.items forest.through.items forest.before.items
      → ((z : ℕ) → is_member z X ≡ true → is_member z Y ≡ true) → is_member edge Y ≡ true → Joins ends edge second first
      → IsTree ends Y old.order.items old.through.items old.before.items → IsTree ends Y new.order.items new.through.items new.before.items

-- the vertices at the first places are found, and stay those of a forest
pub record IsHung (forest old : RootedForest) (count : ℕ) (new : RootedForest) : Type 0 where
  pub long : length new.place.items ≡ length old.place.items
  pub ordered : IsOrder new.place.items new.order.items new.through.items new.before.items
  pub front : IsFront old.order.items new.order.items
  pub found : (k : ℕ) → k < count → is_member (slice_index forest.order.items k) new.order.items ≡ true
  pub tree : (ends : ℕ → ℕ × ℕ) (X Y : List ℕ) → IsTree ends X forest.order.items forest.through.items forest.before.items
      → ((z : ℕ) → is_member z X ≡ true → is_member z Y ≡ true) → IsTree ends Y old.order.items old.through.items old.before.items
      → IsTree ends Y new.order.items new.through.items new.before.items

-- Y has the edge beside the members of X, and these are its ends
pub record IsNewEdge (ends : ℕ → ℕ × ℕ) (edge first second : ℕ) (X Y : List ℕ) : Type 0 where
  pub members : (z : ℕ) → is_member z Y ≡ (z == edge || is_member z X)
  pub ends_are : ends edge ≡ (first, second)
