-- How many edges a forest has: fewer than there are vertices that its edges touch; and a set of edges that joins all vertices, with one
-- edge fewer than there are vertices, is a forest.
-- Idea of the first: a forest has as many edges as there are vertices from which it reaches a lower one, and among the touched vertices
-- the lowest is none of these.
use Rattle.mat_graphic.proofs.Common.{◌≡◌, ◌≢◌, ℕ, suc, ◌<◌, ◌≤◌, Bool, true, eqb, ltb, List, [], ◌∷◌, length, inl, inr, sym, ◌∙◌, subst, arith, ltb-true, lt-ltb, eqb-true, eqb-false, eq-eqb, ne_eqb, and_parts, and_from, not-true, is_member, IsRising, RisesFrom, IsSet, all_below, is_set}
use Rattle.mat_graphic.proofs.Common.{those_below, Walk, RisesFrom-weaken, is_member-head, member_from, some_from_member, IsSet-those_below, is_member-those_below, IsSet-from_test, length-subset, same_size_subset, is_member-tail, below_member, IsRising-all_below, IsSet-all_below, rank_is, IsForest}
use Rattle.mat_graphic.proofs.Common.{is_forest, is_graphic, least_reached, number_of_components, least_merged, trail_of_same, least_merged-le, least_merged-fixed, graphic_laws, reaching_lower, is_member-reaching_lower, IsRising-reaching_lower, length-reaching_lower}
use Rattle.mat_laws.specs.Ranks.{rank}
use Rattle.mat_graphic.proofs.ComponentCounts.{AreEndsBelow, least_reached-merged, rank_and_number}

module _ (ends : ℕ → ℕ × ℕ) where
  -- both ends of each edge are in U
  abbrev pub AreEndsIn : List ℕ → List ℕ → Type 0
  AreEndsIn U F = (e : ℕ) → is_member e F ≡ true → (is_member (ends e).0 U ≡ true) × (is_member (ends e).1 U ≡ true)

  -- a walk that leads elsewhere has both its ends among the ends of its edges
  walk_start_in : (U edges : List ℕ) (v w : ℕ) → AreEndsIn U edges → Walk ends edges v w → v ≢ w → is_member v U ≡ true
  walk_start_in U [] v w inside k other = absurd (other k)
  walk_start_in U (e ∷ edges) v w inside k other =
      let own = inside e (is_member-head e edges) in
      elim k.1 [ inl j ↦ subst (λ z. is_member z U ≡ true) j.0 own.0 | inr j ↦ subst (λ z. is_member z U ≡ true) j.1 own.1 ]

  walk_end_in : (U edges : List ℕ) (v w : ℕ) → AreEndsIn U edges → Walk ends edges v w → is_member v U ≡ true → is_member w U ≡ true
  walk_end_in U [] v w inside k m = subst (λ z. is_member z U ≡ true) k m
  walk_end_in U (e ∷ edges) v w inside k m =
      let own = inside e (is_member-head e edges) in
      walk_end_in U edges k.0 w (λ f n. inside f (is_member-tail f e edges n)) k.2
      (elim k.1 [ inl j ↦ subst (λ z. is_member z U ≡ true) j.1 own.1 | inr j ↦ subst (λ z. is_member z U ≡ true) j.0 own.0 ])

  -- a vertex from which F reaches a lower one is touched, and is not the lowest touched one
  above_lowest : (lo u : ℕ) (U F : List ℕ) → RisesFrom lo (u ∷ U) → IsRising F → AreEndsIn (u ∷ U) F → (z : ℕ)
      → is_member z (reaching_lower ends F) ≡ true → is_member z U ≡ true
  above_lowest lo u U F r rf inside z m =
      let P = trail_of_same ends F z (least_merged ends F z) rf (sym (least_merged-fixed ends F z)) in
      let lower : least_merged ends F z ≢ z = eqb-false _ _ (not-true _ (sym (is_member-reaching_lower ends F z) ∙ m)) in
      let on_trail : AreEndsIn (u ∷ U) P.edges = λ e k. inside e (P.inside.inside e k) in
      let here = walk_start_in (u ∷ U) P.edges z (least_merged ends F z) on_trail P.walk (λ same. lower (sym same)) in
      let there = walk_end_in (u ∷ U) P.edges z (least_merged ends F z) on_trail P.walk here in
      let low : u ≤ least_merged ends F z = member_from u (least_merged ends F z) (u ∷ U) (omega arith, r.1) there in
      let other : z ≢ u = omega (arith, least_merged-le ends F z) in
      rw (ne_eqb z u other) at here

  pub length-forest_inside : (F U : List ℕ) → IsRising F → IsForest ends F → IsRising U → AreEndsIn U F → 0 < length U
      → length F < length U
  length-forest_inside F [] rf forest ru inside some = absurd (omega arith)
  length-forest_inside F (u ∷ U) rf forest ru inside some =
      let r = ru.rises in
      let tail : IsRising U = record { rises = RisesFrom-weaken 0 (suc u) U (omega arith) r.1 } in
      omega (
        arith,
        length-reaching_lower ends F rf forest,
        length-subset (reaching_lower ends F) U (IsRising-reaching_lower ends F) tail
            (record { inside = above_lowest 0 u U F r rf inside }),
      )

  -- where one vertex is the least of the component of each, there is at most one component
  one_component : (n c : ℕ) (X : List ℕ) → IsRising X → ((v : ℕ) → v < n → least_merged ends X v ≡ c) → number_of_components n ends X ≤ 1
  unfolding number_of_components
  one_component n c X rising same = few (those_below n least) (IsSet-those_below n least).rising (λ v m.
      let p = and_parts (ltb v n) (eqb (least_reached ends X v) v) (sym (is_member-those_below v n least) ∙ m) in
      sym (eqb-true _ _ p.1) ∙ least_reached-merged ends X v rising ∙ same v (ltb-true v n p.0))
    where
      least : ℕ → Bool
      least v = eqb (least_reached ends X v) v

      few : (xs : List ℕ) → IsRising xs → ((v : ℕ) → is_member v xs ≡ true → v ≡ c) → length xs ≤ 1
      few [] r all = omega arith
      few (x ∷ []) r all = omega arith
      few (x ∷ y ∷ xs) r all =
          let lower : x < y = r.rises.1.0 in
          absurd (omega (arith, all x (is_member-head x (y ∷ xs)), all y (is_member-tail y x (y ∷ xs) (is_member-head y xs))))

  -- a set of edges that joins all vertices and has fewer edges than there are vertices is a forest
  pub spanning_forest : (m n c : ℕ) (X : List ℕ) → IsSet m X → AreEndsBelow ends n X → length X < n
      → ((v : ℕ) → v < n → least_merged ends X v ≡ c) → is_graphic m ends X ≡ true
  spanning_forest m n c X s below few same =
      let k = rank_is (graphic_laws m ends) X s.rising in
      let set = IsSet-from_test m k.largest (and_parts (is_set m k.largest) (is_forest ends k.largest) k.passes).0 in
      let whole : k.largest ≡ X = same_size_subset k.largest X set.rising s.rising k.inside
      (omega (arith, k.size, rank_and_number ends m n X s below, one_component n c X s.rising same)) in
      subst (λ Y. is_graphic m ends Y ≡ true) whole k.passes

  -- there is a component where there is a vertex
  pub some_component : (n : ℕ) (X : List ℕ) → IsRising X → 0 < n → 0 < number_of_components n ends X
  unfolding number_of_components
  some_component n X rising some = some_from_member 0 (those_below n least) (is_member-those_below 0 n least ∙ and_from (ltb 0 n) (least 0) (lt-ltb 0 n some)
      (eq-eqb _ _ (omega (arith, least_reached-merged ends X 0 rising, least_merged-le ends X 0))))
    where
      least : ℕ → Bool
      least v = eqb (least_reached ends X v) v

-- a forest has fewer edges than there are vertices
pub rank_below_vertices : (ends : ℕ → ℕ × ℕ) (vertices count : ℕ) → ((e : ℕ) → e < count → ((ends e).0 < vertices) × ((ends e).1 < vertices))
    → 0 < vertices → rank (is_graphic count ends) (all_below count) < vertices
rank_below_vertices ends vertices count inside some =
    let sum = rank_and_number ends count vertices (all_below count) (IsSet-all_below count) (λ e m. inside e (below_member (IsSet-all_below count) m)) in
    let one = some_component ends vertices (all_below count) (IsRising-all_below count) some in
    omega arith
