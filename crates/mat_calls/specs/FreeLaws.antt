-- The free matroid, in which each set is independent (Schrijver, chapter 39).
use Rattle.std.proofs.Common.{ℕ, []}
use Rattle.mat_sets.specs.SetTests.{is_set}
use Rattle.mat_sets.proofs.Members.{IsRising-nil}
use Rattle.mat_sets.proofs.Subsets.{larger_has}
use Rattle.mat_sets.proofs.Ground.{AllBelow-member, AllBelow-subset}
use Rattle.mat_sets.proofs.SetTests.{IsSet-from_test, is_set-true, is_set-with_one}
use Rattle.mat_laws.specs.Matroids.{IsMatroid}

-- the sets on n elements are its independent sets
pub free_laws : (n : ℕ) → IsMatroid n (is_set n)
free_laws n = record {
  empty = is_set-true n [] IsRising-nil tt;
  subsets = λ I J rising inside passes. is_set-true n I rising (AllBelow-subset n I J inside (IsSet-from_test n J passes).below);
  augmentation = λ I J passes others less.
      let set = IsSet-from_test n I passes in
      let other = IsSet-from_test n J others in
      let found = larger_has I J set.rising other.rising less in
      record {
        element = found.0;
        inside = found.1;
        outside = found.2;
        augmented = is_set-with_one n I found.0 set (AllBelow-member n J found.0 other.below found.1);
      };
  sets = λ I passes. IsSet-from_test n I passes;
}
