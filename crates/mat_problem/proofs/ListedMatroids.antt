-- The matroids of a list as values: they are sound where their trees are, and their tests are those of the trees.
use Rattle.std.proofs.Common.{◌≡◌, ◌<◌, List, length, sym, subst, arith}
use Rattle.std.specs.Prelude.{map}
use Rattle.std.proofs.lemmas.List.{length-map, get_or-map}
use Rattle.std.proofs.lemmas.Simd.{map-map}
use Rattle.mat_sets.specs.declared.weight.Weight.{Weight}
use Rattle.mat_union.specs.GrownParts.{AreSound}
use Rattle.mat_any.specs.Trees.{element_count, is_independent, IsSound}
use Rattle.mat_any.specs.Views.{tree_of}
use Rattle.mat_any.specs.declared.any.AnyMatroid.{AnyMatroid}
use Rattle.mat_problem.specs.Instances.{list}
use Rattle.mat_problem.specs.Soundness.{IsSoundInstance}

pub all_sound : (w : List Weight) (matroids : List AnyMatroid) → IsSoundInstance (list w (map tree_of matroids))
    → AreSound (λ m. element_count (tree_of m)) (λ m. IsSound (tree_of m)) (length w) matroids
all_sound w matroids sound = record {
  each = λ i d lt.
      let small : i < length (map tree_of matroids) = omega (arith, lt, length-map matroids tree_of) in
      subst (λ tree. IsSound tree × (element_count tree ≡ length w)) (get_or-map tree_of matroids i d (tree_of d) lt) (sound i (tree_of d) small);
}

-- their tests
pub tests_of_trees : (matroids : List AnyMatroid) → map (λ m. is_independent (tree_of m)) matroids ≡ map is_independent (map tree_of matroids)
tests_of_trees matroids = sym (map-map is_independent tree_of matroids)
