-- A run of a gammoid keeps disjoint paths to the vertices of the set so far: an element gets in exactly where there is one path more, to its
-- vertex.
use Rattle.mat_linked.proofs.Common.{◌≡◌, ℕ, ◌+◌, ◌<◌, ◌≤◌, Bool, true, false, not, ◌&&◌, ◌||◌, if◌then◌else◌, eqb, zero, suc, List, [], ◌∷◌, length, get_or, take, ◌↔◌, inl, inr, refl, sym, ap, ◌∙◌, subst, arith, both_ways, eq-eqb, eqb-true, false_from_ne_true, false≢true, ne_eqb, or_cases, or_left}
use Rattle.mat_linked.proofs.Common.{or_right, take_all, is_member, union, with_one, AreDistinct, IsRising, IsSet, AreDistinct-rising, IsSet-with_one, below_member, IsRising-nil, IsRising-union, IsRising-with_one, is_member-get_or, is_member-union, is_member-with_one, same_members}
use Rattle.mat_linked.proofs.Common.{is_member-take_more, take-with_one, IsRising-take, or_none, same_truth, IsLinker, HasPathsToEach, Linker, IsRunning, IsRunning-next, IsRunning-start, gammoid_laws, is_gammoid-from, is_gammoid-gives, is_gammoid, set_of_vertices, vertices_of, IsGammoid, for_more}
use Rattle.mat_linked.proofs.Common.{linked_by, member_vertex, same_vertex, vertex_member}
use Rattle.mat_linked.proofs.MatchableSets.{take_inside}

-- ---- vertices of sets

pub is_member-set_of_vertices : (targets X : List ℕ) (v : ℕ) → is_member v (set_of_vertices targets X) ≡ is_member v (vertices_of targets X)
is_member-set_of_vertices targets X v = is_member-union v (vertices_of targets X) [] ∙ or_none (is_member v (vertices_of targets X))

vertices_of-with_one : (targets X : List ℕ) (x v : ℕ) → (is_member v (vertices_of targets (with_one X x)))
    ≡ (eqb v (get_or targets x 0) || is_member v (vertices_of targets X))
vertices_of-with_one targets X x v = same_truth (is_member v (vertices_of targets (with_one X x))) _
    (λ m. let w = vertex_member targets (with_one X x) v m in
    elim (or_cases (eqb w.0 x) (is_member w.0 X) (sym (is_member-with_one w.0 x X) ∙ w.1)) [
      | inl same ↦ or_left (eqb v (get_or targets x 0)) _ (eq-eqb v _ (sym w.2 ∙ ap (λ e. get_or targets e 0) (eqb-true w.0 x same)))
      | inr old ↦ or_right (eqb v (get_or targets x 0)) _ (ap (λ u. is_member u (vertices_of targets X)) (sym w.2) ∙ member_vertex targets X w.0 old)
    ])
    (λ m. elim (or_cases (eqb v (get_or targets x 0)) (is_member v (vertices_of targets X)) m) [
      | inl same ↦ ap (λ u. is_member u (vertices_of targets (with_one X x))) (eqb-true v _ same)
          ∙ member_vertex targets (with_one X x) x (is_member-with_one x x X ∙ or_left (eqb x x) (is_member x X) (eq-eqb x x refl))
      | inr old ↦ (let w = vertex_member targets X v old in
          ap (λ u. is_member u (vertices_of targets (with_one X x))) (sym w.2)
          ∙ member_vertex targets (with_one X x) w.0 (is_member-with_one w.0 x X ∙ or_right (eqb w.0 x) (is_member w.0 X) w.1))
    ])

no_vertices : (targets : List ℕ) → [] ≡ set_of_vertices targets []
unfolding union
no_vertices targets = refl

-- the vertices of a set with one element more
pub set_of_vertices-with_one : (targets X : List ℕ) (x : ℕ) → with_one (set_of_vertices targets X) (get_or targets x 0) ≡ set_of_vertices targets (with_one X x)
set_of_vertices-with_one targets X x =
    let v = get_or targets x 0 in
    let rises = IsRising-union (vertices_of targets X) [] IsRising-nil in
    same_members _ _ (IsRising-with_one (set_of_vertices targets X) v rises) (IsRising-union (vertices_of targets (with_one X x)) [] IsRising-nil)
    (λ k. is_member-with_one k v (set_of_vertices targets X) ∙ ap (λ b. eqb k v || b) (is_member-set_of_vertices targets X k)
    ∙ sym (is_member-set_of_vertices targets (with_one X x) k ∙ vertices_of-with_one targets X x k))

-- the vertex of an element that is not in the set is none of the set's
pub new_vertex : (targets X : List ℕ) (x : ℕ) → AreDistinct targets → IsSet (length targets) X → x < length targets → is_member x X ≡ false
    → is_member (get_or targets x 0) (set_of_vertices targets X) ≡ false
new_vertex targets X x distinct set l out = false_from_ne_true _ (λ m.
    let w = vertex_member targets X (get_or targets x 0) (sym (is_member-set_of_vertices targets X (get_or targets x 0)) ∙ m) in
    both_ways (is_member x X) out
    (subst (λ e. is_member e X ≡ true) (same_vertex targets w.0 x distinct (below_member set w.1) l w.2) w.1))

-- where no element stands twice, none stands before its place
not_before : (order : List ℕ) (i : ℕ) → AreDistinct order → i < length order → is_member (get_or order i 0) (take i order) ≡ false
not_before [] i d l = absurd (omega arith)
not_before (y ∷ order) zero d l = refl
not_before (y ∷ order) (suc i) d l =
    other (eqb (get_or order i 0) y) _ (ne_eqb _ y (λ same. both_ways _ d.0 (is_member-get_or order i y (omega arith) same)))
    (not_before order i d.1 (omega arith))
  where
    other : (a b : Bool) → a ≡ false → b ≡ false → (a || b) ≡ false
    other a b e f = grind arith

-- the set has come over the first i elements of the order, and there are paths to its vertices
pub record IsLinkedRun (vertices : ℕ) (arcs : List (ℕ × ℕ)) (sources targets order : List ℕ) (i : ℕ) (set : List ℕ) (links : Linker) : Type 0 where
  pub running : IsRunning (is_gammoid vertices arcs sources targets) order i set
  pub within : (y : ℕ) → is_member y set ≡ true → is_member y (take i order) ≡ true
  pub linked : IsLinker vertices arcs sources (set_of_vertices targets set) links

-- ---- independence and paths

module _ (vertices : ℕ) (arcs : List (ℕ × ℕ)) (sources targets : List ℕ) (given : IsGammoid vertices arcs sources targets) where
  pub independent_by_paths : (X : List ℕ) → IsSet (length targets) X → HasPathsToEach arcs sources (set_of_vertices targets X)
      → is_gammoid vertices arcs sources targets X ≡ true
  independent_by_paths X set p =
      is_gammoid-from vertices arcs sources targets given X
      (linked_by arcs sources targets given.distinct X (set_of_vertices targets X) p.paths set p.disjoint
      (λ v m. p.reached v (is_member-set_of_vertices targets X v ∙ m)))

  pub paths_by_independence : (X : List ℕ) → is_gammoid vertices arcs sources targets X ≡ true
      → HasPathsToEach arcs sources (set_of_vertices targets X)
  paths_by_independence X h =
      let g = is_gammoid-gives vertices arcs sources targets X h in
      record {
        paths = g.paths;
        disjoint = for_more arcs sources targets (set_of_vertices targets X) X g (λ v m. is_member-set_of_vertices targets X v ∙ m);
        reached = λ v m. ap (is_member v) g.ends ∙ sym (is_member-set_of_vertices targets X v) ∙ m;
      }

  -- a set is independent exactly where there are paths to its vertices
  pub told_by_paths : (X : List ℕ) (found : Bool) → IsSet (length targets) X
      → (found ≡ true → HasPathsToEach arcs sources (set_of_vertices targets X))
      → (HasPathsToEach arcs sources (set_of_vertices targets X) → found ≡ true)
      → found ≡ is_gammoid vertices arcs sources targets X
  told_by_paths X true set f g = sym (independent_by_paths X set (f refl))
  told_by_paths X false set f g =
      sym (false_from_ne_true (is_gammoid vertices arcs sources targets X) (λ h. false≢true (g (paths_by_independence X h))))

  -- ---- a run

  pub IsLinkedRun-start : (order set : List ℕ) (links : Linker) → set ≡ [] → IsLinker vertices arcs sources [] links
      → IsLinkedRun vertices arcs sources targets order 0 set links
  IsLinkedRun-start order set links none linked =
      rw none (record {
        running = IsRunning-start (is_gammoid vertices arcs sources targets) order [] (gammoid_laws vertices arcs sources targets given).empty refl;
        within = λ y m. absurd (false≢true m);
        linked = subst (λ ends. IsLinker vertices arcs sources ends links) (no_vertices targets) linked;
      })

  module _ (order : List ℕ) (i x : ℕ) (set : List ℕ) (old : Linker) (distinct : AreDistinct order) (inside : i < length order)
      (at : x ≡ get_or order i 0) (below : x < length targets) (r : IsLinkedRun vertices arcs sources targets order i set old) where
    new_element : is_member x set ≡ false
    new_element = false_from_ne_true (is_member x set) (λ m.
        both_ways _ (not_before order i distinct inside) (subst (λ y. is_member y (take i order) ≡ true) at (r.within x m)))

    set_so_far : IsSet (length targets) set
    set_so_far = (gammoid_laws vertices arcs sources targets given).sets set r.running.passes

    pub vertex_is_new : is_member (get_or targets x 0) (set_of_vertices targets set) ≡ false
    vertex_is_new = new_vertex targets set x given.distinct set_so_far below new_element

    pub IsLinkedRun-next : (found : Bool) (links : Linker) (now : List ℕ)
        → IsLinker vertices arcs sources (if found then with_one (set_of_vertices targets set) (get_or targets x 0) else set_of_vertices targets set) links
        → ((found ≡ true) ↔ HasPathsToEach arcs sources (with_one (set_of_vertices targets set) (get_or targets x 0)))
        → now ≡ (if found then with_one set x else set) → IsLinkedRun vertices arcs sources targets order (i + 1) now links
    IsLinkedRun-next found links now linked answer is =
        let told = told_by_paths (with_one set x) found (IsSet-with_one (length targets) set x set_so_far below)
        (λ e. subst (HasPathsToEach arcs sources) (set_of_vertices-with_one targets set x) (answer.0 e))
        (λ p. answer.1 (subst (HasPathsToEach arcs sources) (sym (set_of_vertices-with_one targets set x)) p)) in
        record {
          running = IsRunning-next (is_gammoid vertices arcs sources targets) order set i x inside at r.running found now
              (told ∙ ap (λ b. not b && is_gammoid vertices arcs sources targets (with_one set x)) (sym new_element)) is;
          within = λ y m. is_member-take_more order i y inside ∙ in_first y found (ap (is_member y) is) m;
          linked = rw is (ends_are found linked);
        }
      where
        ends_are : (found : Bool)
            → IsLinker vertices arcs sources (if found then with_one (set_of_vertices targets set) (get_or targets x 0) else set_of_vertices targets set) links
            → IsLinker vertices arcs sources (set_of_vertices targets (if found then with_one set x else set)) links
        ends_are true h = subst (λ ends. IsLinker vertices arcs sources ends links) (set_of_vertices-with_one targets set x) h
        ends_are false h = h

        in_first : (y : ℕ) (found : Bool) → is_member y now ≡ is_member y (if found then with_one set x else set) → is_member y now ≡ true
            → (is_member y (take i order) || eqb y (get_or order i 0)) ≡ true
        in_first y false same m = or_left (is_member y (take i order)) _ (r.within y (sym same ∙ m))
        in_first y true same m = elim (or_cases (eqb y x) (is_member y set) (sym (is_member-with_one y x set) ∙ sym same ∙ m)) [
          | inl one ↦ or_right (is_member y (take i order)) _ (eq-eqb y _ (eqb-true y x one ∙ at))
          | inr old ↦ or_left (is_member y (take i order)) _ (r.within y old)
        ]

  -- ---- whether a set is linked, one member after the other

  module _ (elements : List ℕ) (rises : IsRising elements) (i : ℕ) (inside : i < length elements) (old : Linker)
      (below : get_or elements i 0 < length targets) (r : IsLinkedRun vertices arcs sources targets elements i (take i elements) old) (found : Bool)
      (told : (found ≡ true) ↔ ((is_member (get_or targets (get_or elements i 0) 0) (set_of_vertices targets (take i elements)) ≡ false)
      × HasPathsToEach arcs sources (with_one (set_of_vertices targets (take i elements)) (get_or targets (get_or elements i 0) 0)))) where
    answer : (found ≡ true) ↔ HasPathsToEach arcs sources (with_one (set_of_vertices targets (take i elements)) (get_or targets (get_or elements i 0) 0))
    answer = (
      λ e. (told.0 e).1,
      λ p. told.1 (vertex_is_new elements i (get_or elements i 0) (take i elements) old (AreDistinct-rising elements rises) inside refl below r, p),
    )

    pub IsLinkedRun-all_so_far : (links : Linker)
        → IsLinker vertices arcs sources (if found then with_one (set_of_vertices targets (take i elements)) (get_or targets (get_or elements i 0) 0)
        else set_of_vertices targets (take i elements)) links
        → found ≡ true → IsLinkedRun vertices arcs sources targets elements (i + 1) (take (i + 1) elements) links
    IsLinkedRun-all_so_far links linked was =
        IsLinkedRun-next elements i (get_or elements i 0) (take i elements) old (AreDistinct-rising elements rises) inside refl below r found links
        (take (i + 1) elements) linked answer
        (take-with_one elements i rises inside ∙ ap (λ b. if b then with_one (take i elements) (get_or elements i 0) else take i elements) (sym was))

    -- a part that is not linked
    pub part_not_linked : found ≡ false → false ≡ is_gammoid vertices arcs sources targets elements
    part_not_linked was = sym (false_from_ne_true _ (λ ok.
        both_ways found was (answer.1
        (subst (HasPathsToEach arcs sources)
        (ap (set_of_vertices targets) (take-with_one elements i rises inside)
        ∙ sym (set_of_vertices-with_one targets (take i elements) (get_or elements i 0)))
        (paths_by_independence (take (i + 1) elements)
        ((gammoid_laws vertices arcs sources targets given).subsets (take (i + 1) elements) elements (IsRising-take elements (i + 1) rises)
        (record { inside = take_inside elements (i + 1) }) ok))))))

  pub all_linked : (elements : List ℕ) (i : ℕ) (links : Linker) → length elements ≤ i
      → IsLinkedRun vertices arcs sources targets elements i (take i elements) links → true ≡ is_gammoid vertices arcs sources targets elements
  all_linked elements i links past r =
      sym (subst (λ X. is_gammoid vertices arcs sources targets X ≡ true) (take_all i elements past) r.running.passes)
