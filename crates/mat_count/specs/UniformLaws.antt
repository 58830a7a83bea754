-- The sets of at most so many elements are the independent sets of a matroid (Schrijver, chapter 39).
use Rattle.std.proofs.Common.{ℕ, ◌≤◌, leb, [], length, arith}
use Rattle.std.proofs.lemmas.Bool.{and_parts, and_from, leb-true, le-leb}
use Rattle.mat_sets.specs.Sets.{with_one}
use Rattle.mat_sets.specs.SetTests.{is_set}
use Rattle.mat_sets.proofs.Members.{IsRising-nil}
use Rattle.mat_sets.proofs.Subsets.{larger_has, length-subset}
use Rattle.mat_sets.proofs.Cardinalities.{length-with_one}
use Rattle.mat_sets.proofs.Ground.{AllBelow-member, AllBelow-subset}
use Rattle.mat_sets.proofs.SetTests.{IsSet-from_test, is_set-true, is_set-with_one}
use Rattle.mat_laws.specs.Matroids.{IsMatroid}
use Rattle.mat_count.specs.Counts.{is_uniform}

-- the laws of uniform matroids
pub uniform_laws : (n cap : ℕ) → IsMatroid n (is_uniform n cap)
uniform_laws n cap = record {
  empty = and_from (is_set n []) (leb 0 cap) (is_set-true n [] IsRising-nil tt) (le-leb 0 cap (omega arith));
  subsets = λ I J rising inside passes.
      let tests = and_parts (is_set n J) (leb (length J) cap) passes in
      let set = IsSet-from_test n J tests.0 in
      let most : length J ≤ cap = leb-true (length J) cap tests.1 in
      let fewer : length I ≤ length J = length-subset I J rising set.rising inside in
      and_from (is_set n I) (leb (length I) cap) (is_set-true n I rising (AllBelow-subset n I J inside set.below))
      (le-leb (length I) cap (omega arith));
  augmentation = λ I J passes others less.
      let first = and_parts (is_set n I) (leb (length I) cap) passes in
      let second = and_parts (is_set n J) (leb (length J) cap) others in
      let set = IsSet-from_test n I first.0 in
      let other = IsSet-from_test n J second.0 in
      let found = larger_has I J set.rising other.rising less in
      let most : length J ≤ cap = leb-true (length J) cap second.1 in
      record {
        element = found.0;
        inside = found.1;
        outside = found.2;
        augmented = and_from (is_set n (with_one I found.0)) (leb (length (with_one I found.0)) cap)
            (is_set-with_one n I found.0 set (AllBelow-member n J found.0 other.below found.1))
            (le-leb (length (with_one I found.0)) cap (omega (arith, length-with_one I found.0 set.rising found.2)));
      };
  sets = λ I passes. IsSet-from_test n I (and_parts (is_set n I) (leb (length I) cap) passes).0;
}
