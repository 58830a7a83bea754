-- A union of unions as one union of all their matroids, and what it keeps of an independent set (Schrijver, chapter 42).
use Rattle.std.specs.Prelude.{◌≡◌, ℕ, List, map}
use Rattle.mat_union.specs.GrownParts.{AreKeptParts}
use Rattle.mat_union.specs.Unions.{union_test}
use Rattle.mat_union.specs.UnionsOf.{common_size, AreJoined}
use Rattle.mat_any.specs.AnyKeeps.{KeepsAny}
use Rattle.mat_any.specs.Trees.{Tree, flat_of, element_count, is_independent, IsSound}
use Rattle.mat_any.specs.declared.flat_kept.FlatKept.{FlatKept}
use Rattle.mat_any.specs.declared.flat_kept.FlatKept.TheVariants.{Own, Flat}

-- the matroid is the union of those of `flat_of`, which are sound, of one size, and fewer than 2 ^ 32
pub record IsFlat (t : Tree) : Type 0 where
  pub joined : AreJoined element_count IsSound (flat_of t)
  pub size : common_size element_count (flat_of t) ≡ element_count t
  pub test : union_test (element_count t) (map is_independent (flat_of t)) ≡ is_independent t

-- what is kept is right: what the matroid itself keeps, or parts for the matroids of its unions and what each of these keeps of its part
abbrev pub KeepsFlat : Tree → List ℕ → FlatKept → Type 0
KeepsFlat t I (Own kept) = KeepsAny t I kept
KeepsFlat t I (Flat held) = IsFlat t × AreKeptParts is_independent KeepsAny (flat_of t) I held.parts held.kept.items
