-- The exchanges of an element at what is kept of the paths to an independent set: they are told by the vertices of its members that give way.
use Rattle.mat_linked.proofs.Common.{◌≡◌, ℕ, ◌<◌, Bool, true, false, not, ◌&&◌, ◌||◌, eqb, ◌↔◌, List, [], length, get_or, filter, refl, sym, ap, ◌∙◌, subst, arith, both_ways, eq-eqb, eqb-true, false_from_ne_true, is_member, with_one, without_one, AreDistinct, IsSet, filter_whole, IsSet-with_one}
use Rattle.mat_linked.proofs.Common.{IsSet-without_one, below_member, filter_same_at, is_member-with_one, is_member-without_one, same_members, IsRising-nil, IsRising-union, IsRising-with_one, IsRising-without_one, same_truth, HasPathsToEach, GiveWay, row_of, row-addable, row_outside, gammoid_laws}
use Rattle.mat_linked.proofs.Common.{is_gammoid, set_of_vertices, vertices_of, IsGammoid, has_vertex_in, member_vertex, same_vertex, vertex_member}
use Rattle.mat_linked.proofs.LinkedRuns.{is_member-set_of_vertices, new_vertex, set_of_vertices-with_one, told_by_paths}

-- the vertices of a set with one element fewer
pub set_of_vertices-without_one : (targets X : List ℕ) (y : ℕ) → AreDistinct targets → IsSet (length targets) X → y < length targets
    → without_one (set_of_vertices targets X) (get_or targets y 0) ≡ set_of_vertices targets (without_one X y)
set_of_vertices-without_one targets X y distinct set l =
    let e = get_or targets y 0 in
    let rises = IsRising-union (vertices_of targets X) [] IsRising-nil in
    same_members _ _ (IsRising-without_one (set_of_vertices targets X) e rises) (IsRising-union (vertices_of targets (without_one X y)) [] IsRising-nil)
    (λ v. is_member-without_one v e (set_of_vertices targets X) ∙ ap (λ b. b && not (eqb v e)) (is_member-set_of_vertices targets X v)
    ∙ same_truth _ _ (there v) (back v) ∙ sym (is_member-set_of_vertices targets (without_one X y) v))
  where
    parts : (a b : Bool) → (a && not b) ≡ true → (a ≡ true) × (b ≡ false)
    parts a b h = (grind arith, grind arith)

    both : (a b : Bool) → a ≡ true → b ≡ false → (a && not b) ≡ true
    both a b h k = grind arith

    there : (v : ℕ) → (is_member v (vertices_of targets X) && not (eqb v (get_or targets y 0))) ≡ true
        → is_member v (vertices_of targets (without_one X y)) ≡ true
    there v m =
        let p = parts (is_member v (vertices_of targets X)) (eqb v (get_or targets y 0)) m in
        let w = vertex_member targets X v p.0 in
        let other : eqb w.0 y ≡ false = false_from_ne_true (eqb w.0 y) (λ same. both_ways _ p.1
        (eq-eqb v (get_or targets y 0) (sym w.2 ∙ ap (λ e. get_or targets e 0) (eqb-true w.0 y same)))) in
        ap (λ u. is_member u (vertices_of targets (without_one X y))) (sym w.2)
        ∙ member_vertex targets (without_one X y) w.0 (is_member-without_one w.0 y X ∙ both (is_member w.0 X) (eqb w.0 y) w.1 other)

    back : (v : ℕ) → is_member v (vertices_of targets (without_one X y)) ≡ true
        → (is_member v (vertices_of targets X) && not (eqb v (get_or targets y 0))) ≡ true
    back v m =
        let w = vertex_member targets (without_one X y) v m in
        let p = parts (is_member w.0 X) (eqb w.0 y) (sym (is_member-without_one w.0 y X) ∙ w.1) in
        both _ _ (ap (λ u. is_member u (vertices_of targets X)) (sym w.2) ∙ member_vertex targets X w.0 p.0)
        (false_from_ne_true _ (λ same. both_ways (eqb w.0 y) p.1
        (eq-eqb w.0 y (same_vertex targets w.0 y distinct (below_member set p.0) l (w.2 ∙ eqb-true v _ same)))))

module _ (vertices : ℕ) (arcs : List (ℕ × ℕ)) (sources targets : List ℕ) (given : IsGammoid vertices arcs sources targets)
    (base : List ℕ) (ok : is_gammoid vertices arcs sources targets base ≡ true) (x : ℕ) (below : x < length targets)
    (out : is_member x base ≡ false) where
  abbrev p : List ℕ → Bool
  p = is_gammoid vertices arcs sources targets

  set_base : IsSet (length targets) base
  set_base = (gammoid_laws vertices arcs sources targets given).sets base ok

  pub vertex_outside : is_member (get_or targets x 0) (set_of_vertices targets base) ≡ false
  vertex_outside = new_vertex targets base x given.distinct set_base below out

  more : (found : Bool) → (found ≡ true → HasPathsToEach arcs sources (with_one (set_of_vertices targets base) (get_or targets x 0)))
      → (HasPathsToEach arcs sources (with_one (set_of_vertices targets base) (get_or targets x 0)) → found ≡ true)
      → found ≡ p (with_one base x)
  more found f g =
      told_by_paths vertices arcs sources targets given (with_one base x) found (IsSet-with_one (length targets) base x set_base below)
      (λ e. subst (HasPathsToEach arcs sources) (set_of_vertices-with_one targets base x) (f e))
      (λ q. g (subst (HasPathsToEach arcs sources) (sym (set_of_vertices-with_one targets base x)) q))

  -- whether x can be added, by what is told of the paths
  pub adds_told : (found : Bool) → ((found ≡ true) ↔ ((is_member (get_or targets x 0) (set_of_vertices targets base) ≡ false)
      × HasPathsToEach arcs sources (with_one (set_of_vertices targets base) (get_or targets x 0)))) → found ≡ (row_of p base x).addable
  adds_told found told =
      more found (λ e. (told.0 e).1) (λ q. told.1 (vertex_outside, q)) ∙ sym (row-addable p base x (row_of p base x) out refl)

  -- x can be added: then it can take the place of each member
  pub row_addable : (with' : List ℕ) → HasPathsToEach arcs sources (with_one (set_of_vertices targets base) (get_or targets x 0)) → with' ≡ base
      → record { addable = true; with = with' } ≡ row_of p base x
  row_addable with' paths is =
      let added = more true (λ e. paths) (λ q. refl) in
      row_outside p base x _ out added (is ∙ sym (filter_whole (λ y. p (with_one (without_one base y) x)) base (λ y m. part y added)))
    where
      part : (y : ℕ) → true ≡ p (with_one base x) → p (with_one (without_one base y) x) ≡ true
      part y added =
          (gammoid_laws vertices arcs sources targets given).subsets (with_one (without_one base y) x) (with_one base x)
          (IsRising-with_one _ x (IsRising-without_one base y set_base.rising))
          (record { inside = λ k m. is_member-with_one k x base ∙ fewer k (is_member-with_one k x (without_one base y)) (is_member-without_one k y base) m })
          (sym added)
        where
          fewer : (k : ℕ) → is_member k (with_one (without_one base y) x) ≡ (eqb k x || is_member k (without_one base y))
              → is_member k (without_one base y) ≡ (is_member k base && not (eqb k y))
              → is_member k (with_one (without_one base y) x) ≡ true → (eqb k x || is_member k base) ≡ true
          fewer k a b m = grind arith

  -- x cannot be added: it can take the place of the members whose vertices give way
  pub row_by_ways : (with' set : List ℕ) → GiveWay arcs sources (set_of_vertices targets base) (get_or targets x 0) set
      → with' ≡ filter (has_vertex_in targets set) base → record { addable = false; with = with' } ≡ row_of p base x
  row_by_ways with' set w is =
      row_outside p base x _ out (more false (λ e. absurd (both_ways false refl e)) (λ q. absurd (w.none_more q)))
      (is ∙ filter_same_at (has_vertex_in targets set) (λ y. p (with_one (without_one base y) x)) base at)
    where
      at : (y : ℕ) → is_member y base ≡ true → has_vertex_in targets set y ≡ p (with_one (without_one base y) x)
      at y m =
          let e = get_or targets y 0 in
          let l = below_member set_base m in
          let way = w.give_way e (is_member-set_of_vertices targets base e ∙ member_vertex targets base y m) in
          let same : with_one (without_one (set_of_vertices targets base) e) (get_or targets x 0)
          ≡ set_of_vertices targets (with_one (without_one base y) x) =
          ap (λ s. with_one s (get_or targets x 0)) (set_of_vertices-without_one targets base y given.distinct set_base l)
          ∙ set_of_vertices-with_one targets (without_one base y) x in
          told_by_paths vertices arcs sources targets given (with_one (without_one base y) x) (has_vertex_in targets set y)
          (IsSet-with_one (length targets) (without_one base y) x (IsSet-without_one (length targets) base y set_base) below)
          (λ h. subst (HasPathsToEach arcs sources) same (way.0 h))
          (λ q. way.1 (subst (HasPathsToEach arcs sources) (sym same) q))
