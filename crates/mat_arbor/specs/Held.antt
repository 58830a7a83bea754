-- The weighted vertex sets that hold an arc or a vertex (Schrijver, chapter 52).
use Rattle.std.specs.Prelude.{◌≡◌, ℕ, ◌<◌, Bool, ◌&&◌, List, [], ◌∷◌, length, slice_index_or, ℤ, pos, ◌+ℤ◌}
use Rattle.mat_sets.specs.Sets.{is_member, IsSet}
use Rattle.mat_sets.specs.Sums.{IsWithin}
use Rattle.mat_cuts.specs.Cuts.{weight_where}
use Rattle.mat_cuts.specs.declared.cut_weight.CutWeight.{CutWeight}

-- whether both ends of the arc are in the set
abbrev pub holds : (ℕ → ℕ × ℕ) → List ℕ → ℕ → Bool
holds ends set a = is_member (ends a).0 set && is_member (ends a).1 set

-- the weights of the listed sets that hold both ends of the arc, added
abbrev pub held_weight : (ℕ → ℕ × ℕ) → List CutWeight → ℕ → ℤ
held_weight ends [] a = pos 0
held_weight ends (c ∷ cuts) a = weight_where (holds ends c.set a) c.weight +ℤ held_weight ends cuts a

-- the weights of the listed sets that hold the vertex, added
abbrev pub weight_around : List CutWeight → ℕ → ℤ
weight_around [] v = pos 0
weight_around (c ∷ cuts) v = weight_where (is_member v c.set) c.weight +ℤ weight_around cuts v

-- a set of vertices, with a weight from -bound to bound
pub record IsCutWithin (vertices bound : ℕ) (c : CutWeight) : Type 0 where
  pub set : IsSet vertices c.set
  pub small : IsWithin bound c.weight

-- the held weight of each arc, in one list
pub record AreHeldWeights (count : ℕ) (ends : ℕ → ℕ × ℕ) (cuts : List CutWeight) (held : List ℕ) : Type 0 where
  pub long : length held ≡ count
  pub each : (a : ℕ) → a < count → pos (slice_index_or held a 0) ≡ held_weight ends cuts a
