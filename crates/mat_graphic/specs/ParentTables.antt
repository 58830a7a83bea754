-- The algorithm's own notions, by which its private functions are told: tables of parents (union-find), in which the parents lead from each
-- vertex down to the least one of its component. No public contract rests on them.
use Rattle.std.specs.Prelude.{◌≡◌, ℕ, ◌<◌, ◌≤◌, List, length, slice_index}

-- no parent is above its vertex
pub record IsDescending (parent : List ℕ) : Type 0 where
  pub at : (v : ℕ) → v < length parent → slice_index parent v ≤ v

-- the table is one of the components whose least vertices `least` gives: the parent of a vertex is in its component, and a vertex that is
-- its own parent is the least one
pub record IsParentTable (least : ℕ → ℕ) (parent : List ℕ) : Type 0 where
  pub same : (v : ℕ) → v < length parent → least (slice_index parent v) ≡ least v
  pub root : (v : ℕ) → v < length parent → slice_index parent v ≡ v → least v ≡ v
  pub fixed : (v : ℕ) → least (least v) ≡ least v
