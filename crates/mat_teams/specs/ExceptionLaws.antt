-- The sets of at most as many elements as a circuit has, but for the circuit, are the independent sets of a matroid (Oxley, section 2.1): where
-- one element of a larger set completes the circuit, the larger set has another one, or it would be the circuit.
use Rattle.std.proofs.Common.{◌≡◌, ◌≢◌, ◌∙◌, ap, sym, inl, inr, ℕ, ◌≤◌, ◌<◌, leb, true, false, not, ◌||◌, List, [], length, eqb, arith}
use Rattle.std.proofs.lemmas.Bool.{and_parts, and_from, cases_Bool, leb-true, le-leb, not_from_false, not_from_true, or_parts, true≢false}
use Rattle.std.specs.Cmp.Lexicographic.{pointwise, bytes_decides}
use Rattle.mat_sets.specs.Sets.{is_member, with_one, IsRising, IsSet, IsSubset}
use Rattle.mat_sets.specs.SetTests.{is_set}
use Rattle.mat_sets.proofs.Members.{is_member-with_one, IsRising-with_one, set_members}
use Rattle.mat_sets.proofs.Subsets.{same_size_subset, subset_or}
use Rattle.mat_sets.proofs.Cardinalities.{length-with_one}
use Rattle.mat_sets.proofs.Ground.{below_member}
use Rattle.mat_sets.proofs.SetTests.{is_set-with_one}
use Rattle.mat_laws.specs.Matroids.{Augments, IsMatroid}
use Rattle.mat_count.specs.Counts.{is_uniform}
use Rattle.mat_count.specs.UniformLaws.{uniform_laws}
use Rattle.mat_teams.specs.Exceptions.{is_uniform_except}

module _ (n : ℕ) (C : List ℕ) where
  -- ---- the two parts of the test

  pub uniform_except-from : (X : List ℕ) → is_uniform n (length C) X ≡ true → X ≢ C → is_uniform_except n C X ≡ true
  uniform_except-from X uniform differs =
      and_from (is_uniform n (length C) X) (not (pointwise eqb X C)) uniform
      (elim (cases_Bool (pointwise eqb X C)) [
        | inl same ↦ absurd (differs ((bytes_decides X C).0 same))
        | inr other ↦ not_from_false (pointwise eqb X C) other
      ])

  pub uniform_except-gives : (X : List ℕ) → is_uniform_except n C X ≡ true → (is_uniform n (length C) X ≡ true) × (X ≢ C)
  uniform_except-gives X passes =
      let parts = and_parts (is_uniform n (length C) X) (not (pointwise eqb X C)) passes in
      (parts.0, λ same. true≢false (sym parts.1 ∙ not_from_true (pointwise eqb X C) ((bytes_decides X C).1 same)))

  -- a set that passes has at most as many elements as the circuit
  few : (X : List ℕ) → is_uniform n (length C) X ≡ true → length X ≤ length C
  few X uniform = leb-true (length X) (length C) (and_parts (is_set n X) (leb (length X) (length C)) uniform).1

  -- ---- the laws

  subset_passes : (I J : List ℕ) → IsRising I → IsSubset I J → is_uniform_except n C J ≡ true → is_uniform_except n C I ≡ true
  subset_passes I J rising inside passes =
      let larger = uniform_except-gives J passes in
      let laws = uniform_laws n (length C) in
      let set = laws.sets J larger.0 in
      uniform_except-from I (laws.subsets I J rising inside larger.0)
      (λ same. larger.1 (sym (same_size_subset I J rising set.rising inside (omega (arith, few J larger.0, ap length same))) ∙ same))

  module _ (I J : List ℕ) (passes : is_uniform_except n C I ≡ true) (others : is_uniform_except n C J ≡ true) (less : length I < length J) where
    set : IsSet n I
    set = (uniform_laws n (length C)).sets I (uniform_except-gives I passes).0

    larger : IsSet n J
    larger = (uniform_laws n (length C)).sets J (uniform_except-gives J others).0

    -- an element of J that does not complete the circuit can be added
    added : (x : ℕ) → is_member x J ≡ true → is_member x I ≡ false → with_one I x ≢ C → Augments (is_uniform_except n C) I J
    added x inside outside differs = record {
      element = x;
      inside = inside;
      outside = outside;
      augmented = uniform_except-from (with_one I x)
          (and_from (is_set n (with_one I x)) (leb (length (with_one I x)) (length C)) (is_set-with_one n I x set (below_member larger inside))
          (le-leb (length (with_one I x)) (length C)
          (omega (arith, less, length-with_one I x set.rising outside, few J (uniform_except-gives J others).0))))
          differs;
    }

    -- where x completes the circuit, J has an element beside I and x
    another : (x : ℕ) → is_member x I ≡ false → with_one I x ≡ C → Augments (is_uniform_except n C) I J
    another x outside same =
        elim (subset_or J (with_one I x)) [
          | inl inside ↦ absurd ((uniform_except-gives J others).1 (same_size_subset J (with_one I x) larger.rising (IsRising-with_one I x set.rising)
              inside (omega (arith, less, length-with_one I x set.rising outside)) ∙ same))
          | inr other ↦
              let apart : (eqb other.0 x || is_member other.0 I) ≡ false = sym (is_member-with_one other.0 x I) ∙ other.2 in
              added other.0 other.1 (or_parts (eqb other.0 x) (is_member other.0 I) apart).1 (λ completes.
              let member : is_member other.0 (with_one I other.0) ≡ true = grind (arith, set_members) in
              true≢false (sym member ∙ ap (is_member other.0) (completes ∙ sym same) ∙ other.2))
        ]

    augments : Augments (is_uniform_except n C) I J
    augments =
        let found = (uniform_laws n (length C)).augmentation I J (uniform_except-gives I passes).0 (uniform_except-gives J others).0 less in
        elim (cases_Bool (pointwise eqb (with_one I found.element) C)) [
          | inl same ↦ another found.element found.outside ((bytes_decides (with_one I found.element) C).0 same)
          | inr other ↦ added found.element found.inside found.outside
              (λ same. true≢false (sym ((bytes_decides (with_one I found.element) C).1 same) ∙ other))
        ]

-- the laws, where the circuit has an element
pub uniform_except_laws : (n : ℕ) (C : List ℕ) → 0 < length C → IsMatroid n (is_uniform_except n C)
uniform_except_laws n C some = record {
  empty = uniform_except-from n C [] (uniform_laws n (length C)).empty (λ same. absurd (omega (arith, some, ap length same)));
  subsets = subset_passes n C;
  augmentation = augments n C;
  sets = λ I passes. (uniform_laws n (length C)).sets I (uniform_except-gives n C I passes).0;
}
