-- What the parts of a graphic matroid show. A forest stays one with an edge that brings a vertex which no edge before it has; and labels that
-- are the same along each edge of a set are at most as many as the components of any set of these edges.
use Rattle.mat_witness.proofs.Common.{◌≡◌, ◌≢◌, ℕ, ◌-◌, ◌<◌, ◌≤◌, Bool, true, false, not, cond, ◌&&◌, ◌==◌, eqb, ltb, List, [], ◌∷◌, length, map, inl, inr, refl, sym, ap, ◌∙◌, subst, arith, length-map, cases_eq, eqb-true, eqb-false, eq-eqb, ne_eqb, lt-ltb, and_from, and_parts, or_cases, or_parts}
use Rattle.mat_witness.proofs.Common.{or_left, or_right, false≢true, not-true, both_ways, IsGraph, ends_of, those_below, is_member, IsRising, IsSet, IsSubset, union, is_set, length-items, below_member, IsRising-nil, IsRising-union, is_member-union, place_of_member, is_member-those_below}
use Rattle.mat_witness.proofs.Common.{IsSet-from_test, test_from-IsSet, length-subset, union-left, or_none, IsForest, is_forest, is_graphic, least_reached, number_of_components, constant_on_components, least_merged-le, least_merged-fixed, IsForest-from_test, IsForest-more, IsForest-none}
use Rattle.mat_witness.proofs.Common.{IsForest-subset, test_from-IsForest, least_merged, forest_and_components, least_reached-merged, count_different, have_equal_labels, label_of, bring_vertices, is_end, is_single_end, lists_members, shows_forest}
use Rattle.std.specs.List.{list_any}
use Rattle.mat_sets.proofs.MappedLists.{is_member-map}
use Rattle.mat_witness.proofs.ListedMembers.{all_listed}
use Rattle.mat_witness.proofs.PassingLists.{member_passes}

-- ---- an edge with a vertex that no edge of a forest has

pub list_any-none : (test : ℕ → Bool) (xs : List ℕ) → list_any test xs ≡ false → (x : ℕ) → is_member x xs ≡ true → test x ≡ false
list_any-none test [] h x m = absurd (false≢true m)
list_any-none test (y ∷ xs) h x m =
    let parts = or_parts (test y) (list_any test xs) h in
    elim (or_cases (eqb x y) (is_member x xs) m) [
      | inl e ↦ ap test (eqb-true x y e) ∙ parts.0
      | inr k ↦ list_any-none test xs parts.1 x k
    ]

module _ (ends : ℕ → ℕ × ℕ) where
  -- such a vertex is a component of its own
  alone : (E : List ℕ) (v w : ℕ) → list_any (λ e. is_end ends e v) E ≡ false → least_merged ends E v ≡ least_merged ends E w → v ≡ w
  alone E v w none same =
      let at : ℕ → ℕ = λ u. cond (eqb u v) 1 0 in
      let off : (e : ℕ) → is_member e E ≡ true → (eqb (ends e).0 v ≡ false) × (eqb (ends e).1 v ≡ false) =
      λ e m. or_parts (eqb (ends e).0 v) (eqb (ends e).1 v) (list_any-none (λ e. is_end ends e v) E none e m) in
      let alike : at v ≡ at w = constant_on_components ends at E (λ e m. ap {B = ℕ} (λ b. cond b 1 0) ((off e m).0 ∙ sym (off e m).1)) v w same in
      elim (cases_eq w v) [
        | inl e ↦ sym e
        | inr d ↦ absurd (let here : at v ≡ 1 = ap {B = ℕ} (λ b. cond b 1 0) (eq-eqb v v refl) in
            let there : at w ≡ 0 = ap {B = ℕ} (λ b. cond b 1 0) (ne_eqb w v d) in omega arith)
      ]

  apart_at : (E : List ℕ) (e v : ℕ) → is_single_end ends e v ≡ true → list_any (λ e. is_end ends e v) E ≡ false
      → least_merged ends E (ends e).0 ≢ least_merged ends E (ends e).1
  apart_at E e v single none same =
      let parts = and_parts (is_end ends e v) (not (eqb (ends e).0 (ends e).1)) single in
      let differ : (ends e).0 ≢ (ends e).1 = eqb-false _ _ (not-true _ parts.1) in
      elim (or_cases (eqb (ends e).0 v) (eqb (ends e).1 v) parts.0) [
        | inl a ↦ (let here = eqb-true (ends e).0 v a in
            differ (here ∙ alone E v (ends e).1 none (ap (least_merged ends E) (sym here) ∙ same)))
        | inr b ↦ (let here = eqb-true (ends e).1 v b in
            differ (sym (alone E v (ends e).0 none (ap (least_merged ends E) (sym here) ∙ sym same)) ∙ sym here))
      ]

  -- so edges that bring a vertex each are a forest, with those of the forest before them
  brings_forest : (E : List ℕ) (pairs : List (ℕ × ℕ)) → IsForest ends E → bring_vertices ends E pairs ≡ true
      → (Y : List ℕ) × IsForest ends Y × ((z : ℕ) → is_member z E ≡ true → is_member z Y ≡ true)
      × ((z : ℕ) → is_member z (map (λ pair. pair.0) pairs) ≡ true → is_member z Y ≡ true)
  brings_forest E [] forest h = (E, forest, (λ z m. m), (λ z m. absurd (false≢true m)))
  brings_forest E (pair ∷ pairs) forest h =
      let first = and_parts (is_single_end ends pair.0 pair.1)
      (not (list_any (λ e. is_end ends e pair.1) E) && bring_vertices ends (pair.0 ∷ E) pairs) h in
      let second = and_parts (not (list_any (λ e. is_end ends e pair.1) E)) (bring_vertices ends (pair.0 ∷ E) pairs) first.1 in
      let more = IsForest-more ends E pair.0 (pair.0 ∷ E) forest (apart_at E pair.0 pair.1 first.0 (not-true _ second.0))
      (λ z m d. elim (or_cases (eqb z pair.0) (is_member z E) m) [ inl e ↦ absurd (both_ways _ d e) | inr k ↦ k ]) in
      let rest = brings_forest (pair.0 ∷ E) pairs more second.1 in (
        rest.0,
        rest.1,
        λ z m. rest.2 z (or_right (eqb z pair.0) (is_member z E) m),
        λ z m. elim (or_cases (eqb z pair.0) (is_member z (map (λ pair. pair.0) pairs)) m)
            [ inl e ↦ rest.2 z (or_left (eqb z pair.0) (is_member z E) e) | inr k ↦ rest.3 z k ],
      )

pub forest_is_shown : (n : ℕ) (ends : ℕ → ℕ × ℕ) (pairs : List (ℕ × ℕ)) (X : List ℕ) → IsSet n X → shows_forest ends pairs X ≡ true
    → is_graphic n ends X ≡ true
forest_is_shown n ends pairs X set h =
    let parts = and_parts (lists_members (map (λ pair. pair.0) pairs) X) (bring_vertices ends [] pairs) h in
    let listed = all_listed (map (λ pair. pair.0) pairs) X set.rising parts.0 in
    let grown = brings_forest ends [] pairs (IsForest-none ends) parts.1 in
    and_from (is_set n X) (is_forest ends X) (test_from-IsSet n X set)
    (test_from-IsForest ends X (IsForest-subset ends X grown.0 (record { inside = λ z m. grown.3 z (listed.inside z m) }) grown.1))

-- ---- labels

-- a label for each component of I: where those of the ends of each edge of I agree, there are no more different labels than components
pub labels_few : (n : ℕ) (ends : ℕ → ℕ × ℕ) (numbers I : List ℕ) → IsRising I → length numbers ≡ n
    → ((e : ℕ) → is_member e I ≡ true → label_of numbers (ends e).0 ≡ label_of numbers (ends e).1)
    → count_different numbers ≤ number_of_components n ends I
unfolding number_of_components
labels_few n ends numbers I r long alike =
    let roots = those_below n (λ v. eqb (least_reached ends I v) v) in
    let images = union (map (label_of numbers) roots) [] in
    let rising = IsRising-union numbers [] IsRising-nil in
    let inside : IsSubset (union numbers []) images = record {
      inside = λ z m.
          let place = place_of_member z numbers (sym (or_none (is_member z numbers)) ∙ (sym (is_member-union z numbers []) ∙ m)) in
          let v = place.0 in
          let root = least_merged ends I v in
          let small : root < n = omega (arith, least_merged-le ends I v, place.1, long) in
          let own : least_reached ends I root ≡ root = least_reached-merged ends I root r ∙ least_merged-fixed ends I v in
          let listed : is_member root roots ≡ true = is_member-those_below root n (λ v. eqb (least_reached ends I v) v)
          ∙ and_from (ltb root n) (eqb (least_reached ends I root) root) (lt-ltb root n small) (eq-eqb _ _ own) in
          let same : label_of numbers root ≡ z
          = constant_on_components ends (label_of numbers) I alike root v (least_merged-fixed ends I v) ∙ place.2 in
          (union-left (map (label_of numbers) roots) []).inside z
          (subst (λ y. is_member y (map (label_of numbers) roots) ≡ true) same (is_member-map (label_of numbers) roots root listed));
    } in
    omega (
      arith,
      length-subset (union numbers []) images rising (IsRising-union (map (label_of numbers) roots) [] IsRising-nil) inside,
      length-items (map (label_of numbers) roots),
      length-map roots (label_of numbers),
    )

pub labels_bound_holds : (vertices : ℕ) (edges : List (ℕ × ℕ)) → IsGraph vertices edges → (numbers F I : List ℕ)
    → length numbers ≡ vertices → have_equal_labels (ends_of edges) numbers F ≡ true → is_graphic (length edges) (ends_of edges) I ≡ true
    → IsSubset I F → length I ≤ vertices - count_different numbers
labels_bound_holds vertices edges graph numbers F I long alike passes inside =
    let ends = ends_of edges in
    let tests = and_parts (is_set (length edges) I) (is_forest ends I) passes in
    let set = IsSet-from_test (length edges) I tests.0 in
    let few = labels_few vertices ends numbers I set.rising long (λ e m. eqb-true _ _
    (member_passes (λ e. label_of numbers (ends e).0 == label_of numbers (ends e).1) F e alike (inside.inside e m))) in
    omega (
      arith,
      few,
      forest_and_components ends vertices I set.rising (IsForest-from_test ends I set.rising tests.1)
          (λ e m. (graph.first e (below_member set m), graph.second e (below_member set m))),
    )
