-- What the test of a gammoid means, and the laws that it obeys (Schrijver, chapter 39).
use Rattle.std.proofs.Common.{◌≡◌, ℕ, ◌<◌, true, List, [], length, refl, subst}
use Rattle.std.proofs.lemmas.Bool.{and_from, and_parts}
use Rattle.mat_sets.specs.SetTests.{is_set}
use Rattle.mat_sets.proofs.SetTests.{IsSet-from_test, test_from-IsSet}
use Rattle.mat_laws.specs.Matroids.{Augments, IsMatroid}
use Rattle.mat_linked.specs.Gammoids.{has_paths_to, is_gammoid, vertices_of, IsGammoid, IsLinked}
use Rattle.mat_linked.specs.LinkedSetLaws.{augments, linked_nil, linked_subset}
use Rattle.mat_linked.specs.PathSearchLaws.{has_paths_to-from, has_paths_to-gives}

module _ (vertices : ℕ) (arcs : List (ℕ × ℕ)) (sources targets : List ℕ) where
  pub is_gammoid-gives : (X : List ℕ) → is_gammoid vertices arcs sources targets X ≡ true → IsLinked arcs sources targets X
  is_gammoid-gives X h =
      let a = and_parts (is_set (length targets) X) (has_paths_to vertices arcs sources [] (vertices_of targets X)) h in
      let p = has_paths_to-gives vertices arcs sources (vertices_of targets X) [] (vertices_of targets X) (λ v m. m) a.1 in
      record {
        set = IsSet-from_test (length targets) X a.0;
        paths = p.paths;
        disjoint = record { each = p.each; distinct = p.distinct };
        ends = p.ends_are;
      }

  module _ (given : IsGammoid vertices arcs sources targets) where
    pub is_gammoid-from : (X : List ℕ) → IsLinked arcs sources targets X → is_gammoid vertices arcs sources targets X ≡ true
    is_gammoid-from X g =
        and_from (is_set (length targets) X) (has_paths_to vertices arcs sources [] (vertices_of targets X))
        (test_from-IsSet (length targets) X g.set)
        (subst (λ ends. has_paths_to vertices arcs sources [] ends ≡ true) g.ends
        (has_paths_to-from vertices arcs sources given.graph given.sources_inside.below (vertices_of targets X) [] g.paths
        g.disjoint.each g.disjoint.distinct tt (λ v m. refl)))

    gammoid_augments : (I J : List ℕ) → is_gammoid vertices arcs sources targets I ≡ true
        → is_gammoid vertices arcs sources targets J ≡ true
        → length I < length J → Augments (is_gammoid vertices arcs sources targets) I J
    gammoid_augments I J i j less =
        let a = augments arcs sources targets given.distinct I J (is_gammoid-gives I i) (is_gammoid-gives J j) less in
        record { element = a.element; inside = a.inside; outside = a.outside; augmented = is_gammoid-from _ a.linked }

    pub gammoid_laws : IsMatroid (length targets) (is_gammoid vertices arcs sources targets)
    gammoid_laws = record {
      empty = is_gammoid-from [] (linked_nil arcs sources targets);
      subsets = λ I J rising sub ok. is_gammoid-from I (linked_subset arcs sources targets given.distinct I J rising sub (is_gammoid-gives J ok));
      augmentation = gammoid_augments;
      sets = λ I i. (is_gammoid-gives I i).set;
    }
