-- The dual, the truncations, the restrictions and the contractions of a matroid are matroids (Schrijver, chapter 39).
use Rattle.std.proofs.Common.{ℕ, Bool, eqb, leb, List, [], length, refl, arith}
use Rattle.std.proofs.lemmas.Bool.{and_parts, and_from, leb-true, le-leb, false≢true, both_ways, false_from_ne_true}
use Rattle.mat_sets.specs.Sets.{IsRising, with_one, minus, union, all_below}
use Rattle.mat_sets.proofs.Members.{intersection-none, IsRising-union}
use Rattle.mat_sets.proofs.Subsets.{IsSubset-trans, union-left, with_one-IsSubset, union-IsSubset, length-subset, union-right}
use Rattle.mat_sets.proofs.Cardinalities.{length-with_one}
use Rattle.mat_sets.proofs.Ground.{IsSet-nil, IsSet-subset, IsRising-all_below}
use Rattle.mat_sets.proofs.DisjointSets.{apart_at, apart_from, inside_test, inside_test_from}
use Rattle.mat_laws.specs.Matroids.{IsMatroid}
use Rattle.mat_laws.proofs.Independent.{rising}
use Rattle.mat_laws.proofs.Maximal.{IsBase-maximal}
use Rattle.mat_laws.proofs.RankLaws.{maximal_in}
use Rattle.mat_minors.specs.Minors.{is_dual, is_truncated, is_restricted, is_contracted}
use Rattle.mat_minors.specs.ContractionLaws.{IsJoined-gives, IsJoined-from, contracted_augmentation}
use Rattle.mat_minors.specs.DualLaws.{dual-gives, dual-from, dual_augmentation}

-- the sets from which some base is disjoint
pub dual_laws : (n : ℕ) (independent : List ℕ → Bool) → IsMatroid n independent → IsMatroid n (is_dual n independent)
dual_laws n p laws =
    let b = maximal_in laws (all_below n) (IsRising-all_below n) in
    record {
      empty = dual-from laws [] (record {
        set = IsSet-nil n;
        base = b.0;
        is_base = IsBase-maximal n p b.0 b.1;
        disjoint = apart_from b.0 [] (λ x m. refl);
      });
      subsets = λ I J rises inside passes.
          let j = dual-gives n p J passes in
          dual-from laws I (record {
            set = IsSet-subset n I J rises inside j.set;
            base = j.base;
            is_base = j.is_base;
            disjoint = apart_from j.base I (λ x m. false_from_ne_true _ (λ k. both_ways _ (apart_at j.base J j.disjoint x m) (inside.inside x k)));
          });
      augmentation = λ I J passes others less. dual_augmentation laws I J (dual-gives n p I passes) (dual-gives n p J others) less;
      sets = λ I passes. (dual-gives n p I passes).set;
    }

-- the sets of at most so many elements
pub truncated_laws : (n : ℕ) (independent : List ℕ → Bool) (cap : ℕ) → IsMatroid n independent
    → IsMatroid n (is_truncated cap independent)
truncated_laws n p cap laws = record {
  empty = and_from (p []) (leb 0 cap) laws.empty (le-leb 0 cap (omega arith));
  subsets = λ I J rises inside passes.
      let tests = and_parts (p J) (leb (length J) cap) passes in
      let most = leb-true (length J) cap tests.1 in
      let fewer = length-subset I J rises (rising laws J tests.0) inside in
      and_from (p I) (leb (length I) cap) (laws.subsets I J rises inside tests.0) (le-leb (length I) cap (omega arith));
  augmentation = λ I J passes others less.
      let first = and_parts (p I) (leb (length I) cap) passes in
      let second = and_parts (p J) (leb (length J) cap) others in
      let found = laws.augmentation I J first.0 second.0 less in
      let most = leb-true (length J) cap second.1 in
      record {
        element = found.element;
        inside = found.inside;
        outside = found.outside;
        augmented = and_from (p (with_one I found.element)) (leb (length (with_one I found.element)) cap) found.augmented
            (le-leb (length (with_one I found.element)) cap (omega (arith, length-with_one I found.element (rising laws I first.0) found.outside)));
      };
  sets = λ I passes. laws.sets I (and_parts (p I) (leb (length I) cap) passes).0;
}

-- the sets of kept elements
pub restricted_laws : (n : ℕ) (independent : List ℕ → Bool) (kept : List ℕ) → IsMatroid n independent
    → IsMatroid n (is_restricted kept independent)
restricted_laws n p kept laws = record {
  empty =
      and_from (p []) (eqb (length (minus [] kept)) 0) laws.empty (inside_test_from [] kept (record { inside = λ x m. absurd (false≢true m) }));
  subsets = λ I J rises inside passes.
      let tests = and_parts (p J) (eqb (length (minus J kept)) 0) passes in
      and_from (p I) (eqb (length (minus I kept)) 0) (laws.subsets I J rises inside tests.0)
      (inside_test_from I kept (IsSubset-trans I J kept inside (inside_test J kept tests.1)));
  augmentation = λ I J passes others less.
      let first = and_parts (p I) (eqb (length (minus I kept)) 0) passes in
      let second = and_parts (p J) (eqb (length (minus J kept)) 0) others in
      let found = laws.augmentation I J first.0 second.0 less in
      record {
        element = found.element;
        inside = found.inside;
        outside = found.outside;
        augmented = and_from (p (with_one I found.element)) (eqb (length (minus (with_one I found.element) kept)) 0) found.augmented
            (inside_test_from (with_one I found.element) kept (with_one-IsSubset I kept found.element (inside_test I kept first.1)
            ((inside_test J kept second.1).inside found.element found.inside)));
      };
  sets = λ I passes. laws.sets I (and_parts (p I) (eqb (length (minus I kept)) 0) passes).0;
}

-- the sets that are disjoint from some elements, and independent together with a maximal independent subset of them
pub contracted_laws : (n : ℕ) (independent : List ℕ → Bool) (away : List ℕ) → IsRising away → IsMatroid n independent
    → IsMatroid n (is_contracted n away independent)
unfolding union
contracted_laws n p away r laws =
    let b = maximal_in laws away r in
    let B = b.0 in
    record {
      empty = IsJoined-from laws away B [] r b.1 (record { set = IsSet-nil n; disjoint = intersection-none away; joined = b.1.passes });
      subsets = λ I J rises inside passes.
          let j = IsJoined-gives laws away B J r b.1 passes in
          let s = rising laws B b.1.passes in
          IsJoined-from laws away B I r b.1 (record {
            set = IsSet-subset n I J rises inside j.set;
            disjoint = apart_from I away (λ x m. apart_at J away j.disjoint x (inside.inside x m));
            joined = laws.subsets (union I B) (union J B) (IsRising-union I B s)
                (union-IsSubset I B (union J B) (IsSubset-trans I J _ inside (union-left J B)) (union-right J B)) j.joined;
          });
      augmentation = λ I J passes others less.
          contracted_augmentation laws away B I J r b.1 (IsJoined-gives laws away B I r b.1 passes) (IsJoined-gives laws away B J r b.1 others) less;
      sets = λ I passes. (IsJoined-gives laws away B I r b.1 passes).set;
    }
