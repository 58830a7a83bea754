-- What the test of a transversal matroid means, and the laws that it obeys: those of the linked sets of a graph (Schrijver,
-- chapter 39).
use Rattle.std.proofs.Common.{◌≡◌, ℕ, zero, suc, ◌<◌, Bool, true, ◌&&◌, List, [], ◌∷◌, length, get_or, refl, ap, subst}
use Rattle.std.proofs.lemmas.Bool.{and_from, and_parts, false≢true}
use Rattle.std.proofs.lemmas.List.Elements.{All-head, All-tail}
use Rattle.std.specs.List.{All}
use Rattle.mat_sets.specs.Search.{some_list}
use Rattle.mat_sets.specs.SetTests.{is_set, are_distinct}
use Rattle.mat_sets.specs.Sets.{is_member, all_below, with_one, AllBelow}
use Rattle.mat_sets.proofs.Ground.{AllBelow-member, AreDistinct-rising, IsRising-all_below}
use Rattle.mat_sets.proofs.Search.{some_list_from, some_list_gives}
use Rattle.mat_sets.proofs.SetTests.{IsSet-from_test, test_from-IsSet}
use Rattle.mat_laws.specs.Matroids.{IsMatroid}
use Rattle.mat_linked.specs.Gammoids.{IsLinked}
use Rattle.mat_linked.specs.LinkedSetLaws.{augments, linked_nil, linked_subset}
use Rattle.mat_sets.proofs.SetTests.{are_distinct-from, are_distinct-gives}
use Rattle.mat_linked.specs.TransversalPathLaws.{index_vertices, membership_arcs, IsLinked-transversal, IsPartialTransversal-linked}
use Rattle.mat_linked.specs.Transversals.{is_transversal, lie_in_sets, IsPartialTransversal}

-- as many indices as elements
length-lie_in_sets : (family : List (List ℕ)) (X indices : List ℕ) → lie_in_sets family X indices ≡ true → length indices ≡ length X
length-lie_in_sets family [] [] h = refl
length-lie_in_sets family (x ∷ X) (j ∷ indices) h =
    ap suc (length-lie_in_sets family X indices (and_parts (is_member x (get_or family j [])) (lie_in_sets family X indices) h).1)
length-lie_in_sets family _ _ h = absurd (false≢true h)

members_below : (n : ℕ) (family : List (List ℕ)) → All (AllBelow n) family → (j x : ℕ)
    → is_member x (get_or family j []) ≡ true → x < n
members_below n [] all j x m = absurd (false≢true m)
members_below n (set ∷ family) all zero x m = AllBelow-member n set x (All-head (AllBelow n) set family all) m
members_below n (set ∷ family) all (suc j) x m = members_below n family (All-tail (AllBelow n) set family all) j x m

module _ (n : ℕ) (family : List (List ℕ)) where
  -- whether these indices are those of different sets, each with its member of X
  abbrev are_matched : List ℕ → List ℕ → Bool
  are_matched X indices = are_distinct indices && lie_in_sets family X indices

  pub is_transversal-gives : (X : List ℕ) → is_transversal n family X ≡ true → IsPartialTransversal n family X
  is_transversal-gives X h =
      let a = and_parts (is_set n X) (some_list (length X) (length family) (are_matched X)) h in
      let w = some_list_gives (length X) (length family) (are_matched X) a.1 in
      let b = and_parts (are_distinct w.0) (lie_in_sets family X w.0) w.3 in
      record {
        set = IsSet-from_test n X a.0;
        indices = w.0;
        listed = w.2;
        distinct = are_distinct-gives w.0 b.0;
        inside = b.1;
      }

  pub is_transversal-from : (X : List ℕ) → IsPartialTransversal n family X → is_transversal n family X ≡ true
  is_transversal-from X t =
      and_from (is_set n X) (some_list (length X) (length family) (are_matched X)) (test_from-IsSet n X t.set)
      (subst (λ k. some_list k (length family) (are_matched X) ≡ true) (length-lie_in_sets family X t.indices t.inside)
      (some_list_from (length family) t.indices (are_matched X) t.listed
      (and_from (are_distinct t.indices) (lie_in_sets family X t.indices) (are_distinct-from t.indices t.distinct) t.inside)))

  pub transversal_laws : All (AllBelow n) family → IsMatroid n (is_transversal n family)
  transversal_laws all =
      let arcs = membership_arcs n family in
      let sources = index_vertices n family in
      let elements = AreDistinct-rising (all_below n) (IsRising-all_below n) in
      let gives : (X : List ℕ) → is_transversal n family X ≡ true → IsLinked arcs sources (all_below n) X =
      λ X h. IsLinked-transversal n family X (is_transversal-gives X h) in
      let from : (X : List ℕ) → IsLinked arcs sources (all_below n) X → is_transversal n family X ≡ true =
      λ X g. is_transversal-from X (IsPartialTransversal-linked n family (members_below n family all) X g) in
      record {
        empty = from [] (linked_nil arcs sources (all_below n));
        subsets = λ I J rising sub ok. from I (linked_subset arcs sources (all_below n) elements I J rising sub (gives J ok));
        augmentation = λ I J i j less. (let a = augments arcs sources (all_below n) elements I J (gives I i) (gives J j) less in
            record { element = a.element; inside = a.inside; outside = a.outside; augmented = from (with_one I a.element) a.linked });
        sets = λ I i. (is_transversal-gives I i).set;
      }
