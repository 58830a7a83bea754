-- A search from the sources for a goal, past no vertex of a set: either a route to a goal is found, or each route to a goal meets the set.
use Rattle.mat_flow.proofs.Common.{◌≡◌, ℕ, zero, suc, ◌<◌, Bool, true, false, not, ◌&&◌, List, [], ◌∷◌, length, get_or, reverse, ◌⊎◌, inl, inr, refl, sym, ap, ◌∙◌, subst, arith, and_from, and_parts, both_ways, cases_Bool, cases_lt, eqb-false, not-true, not_from_false, is_member, IsReachedSet}
use Rattle.mat_flow.proofs.Common.{IsShortestWalk, AreDistinct-index, AreDistinct-reverse, is_member-reverse, is_member-tail, is_member-head, place_of_member, finite_reach, shortest_walk_is_chordless, first_of, has_arc, last_of, IsPath}
use Rattle.mat_flow.proofs.Routes.{LeadsBack, IsRoute, SeparatesRoutes}
use Rattle.mat_flow.proofs.VertexBoundLaws.{heads_below, sources_below, vertex_bound}
use Rattle.mat_flow.proofs.TurnedPathLaws.{LeadsBack-reverse, first_of-reverse}

-- a list by whose places an arc leads from each vertex to the next is a path
IsPath-index : (arcs : List (ℕ × ℕ)) (path : List ℕ) (k : ℕ) → length path ≡ suc k
    → ((i : ℕ) → suc i < length path → has_arc arcs (get_or path i 0) (get_or path (suc i) 0) ≡ true) → IsPath arcs path
IsPath-index arcs [] k long steps = absurd (omega arith)
IsPath-index arcs (v ∷ []) k long steps = tt
IsPath-index arcs (v ∷ w ∷ rest) k long steps =
    (steps 0 (omega arith), IsPath-index arcs (w ∷ rest) (length rest) refl (λ i l. steps (suc i) (omega arith)))

pub last_of-index : (path : List ℕ) (k : ℕ) → length path ≡ suc k → last_of path ≡ get_or path k 0
last_of-index (v ∷ []) zero long = refl
last_of-index (v ∷ w ∷ rest) (suc k) long = last_of-index (w ∷ rest) k (omega arith)
last_of-index _ k long = absurd (omega arith)

module _ (arcs : List (ℕ × ℕ)) (sources : List ℕ) (goal : ℕ → Bool) (avoided : List ℕ) where
  -- a route to a goal, past no other goal and no avoided vertex
  pub record FoundRoute : Type 0 where
    pub end : ℕ
    pub route : List ℕ
    pub is : IsRoute arcs sources goal end route
    pub reaches : goal end ≡ true
    pub avoids : (v : ℕ) → is_member v route ≡ true → is_member v avoided ≡ false
    pub below : (v : ℕ) → is_member v route ≡ true → v < vertex_bound arcs sources

  -- the arcs and the sources that the search uses
  abbrev free_arc : ℕ → ℕ → Bool
  free_arc u v = has_arc arcs u v && not (is_member v avoided)

  abbrev free_source : ℕ → Bool
  free_source v = is_member v sources && not (is_member v avoided)

  found_route : (vertices : List ℕ) → IsShortestWalk (vertex_bound arcs sources) free_arc free_source goal vertices → FoundRoute
  found_route vertices shortest =
      let w = shortest.walk in
      let c = shortest_walk_is_chordless (vertex_bound arcs sources) free_arc free_source goal vertices shortest in
      let joined = IsPath-index arcs vertices w.arcs w.long
      (λ i l. (and_parts (has_arc arcs (get_or vertices i 0) (get_or vertices (suc i) 0)) _ (w.steps i l)).0) in
      let last = last_of-index vertices w.arcs w.long in
      record {
        end = last_of vertices;
        route = reverse vertices;
        is = record {
          begins = first_of-reverse arcs sources vertices joined;
          leads = LeadsBack-reverse arcs sources vertices joined (starts vertices w.arcs w.long w.first);
          distinct = AreDistinct-reverse vertices (AreDistinct-index vertices c.differ);
          inner = λ v m other. (let p = place_of_member v vertices (sym (is_member-reverse v vertices) ∙ m) in
              subst (λ z. goal z ≡ false) p.2 (c.goal_once p.0 (before p.0 w.arcs (length vertices) p.1 w.long
              (λ at. eqb-false v (last_of vertices) other (sym p.2 ∙ ap (λ i. get_or vertices i 0) at ∙ sym last)))));
        };
        reaches = ap goal last ∙ w.last;
        avoids = λ v m. (let p = place_of_member v vertices (sym (is_member-reverse v vertices) ∙ m) in
            subst (λ z. is_member z avoided ≡ false) p.2 (free_at vertices w.first w.steps p.0 p.1));
        below = λ v m. (let p = place_of_member v vertices (sym (is_member-reverse v vertices) ∙ m) in
            subst (λ z. z < vertex_bound arcs sources) p.2 (w.below p.0 p.1));
      }
    where
      before : (i k l : ℕ) → i < l → l ≡ suc k → (i ≡ k → ⊥) → suc i < l
      before i k l inside long other = elim (cases_lt (suc i) l) [ inl h ↦ h | inr h ↦ absurd (other (omega arith)) ]

      starts : (vertices : List ℕ) (k : ℕ) → length vertices ≡ suc k → free_source (get_or vertices 0 0) ≡ true
          → is_member (first_of vertices) sources ≡ true
      starts [] k long first = absurd (omega arith)
      starts (v ∷ rest) k long first = (and_parts (is_member v sources) _ first).0

      free_at : (vertices : List ℕ) → free_source (get_or vertices 0 0) ≡ true
          → ((i : ℕ) → suc i < length vertices → free_arc (get_or vertices i 0) (get_or vertices (suc i) 0) ≡ true)
          → (i : ℕ) → i < length vertices → is_member (get_or vertices i 0) avoided ≡ false
      free_at vertices first steps zero l = not-true _ (and_parts (is_member (get_or vertices 0 0) sources) _ first).1
      free_at vertices first steps (suc i) l = not-true _ (and_parts (has_arc arcs (get_or vertices i 0) (get_or vertices (suc i) 0)) _ (steps i l)).1

  -- the end of a route is reached, or the route meets an avoided vertex
  reached_or_met : (reached : List ℕ) → IsReachedSet (vertex_bound arcs sources) free_arc free_source reached
      → (route : List ℕ) → LeadsBack arcs sources route
      → (is_member (first_of route) reached ≡ true) ⊎ ((v : ℕ) × (is_member v route ≡ true) × (is_member v avoided ≡ true))
  reached_or_met reached r [] leads = absurd leads
  reached_or_met reached r (v ∷ []) leads = elim (cases_Bool (is_member v avoided)) [
    | inl met ↦ inr (v, is_member-head v [], met)
    | inr free ↦ inl (r.starts v (sources_below arcs sources v leads) (and_from (is_member v sources) _ leads (not_from_false _ free)))
  ]
  reached_or_met reached r (v ∷ u ∷ rest) leads = elim (reached_or_met reached r (u ∷ rest) leads.1) [
    | inr met ↦ inr (met.0, is_member-tail met.0 v (u ∷ rest) met.1, met.2)
    | inl before ↦ elim (cases_Bool (is_member v avoided)) [
      | inl met ↦ inr (v, is_member-head v (u ∷ rest), met)
      | inr free ↦ inl (r.closed u v before (heads_below arcs sources u v leads.0) (and_from (has_arc arcs u v) _ leads.0 (not_from_false _ free)))
    ]
  ]

  pub find_route : FoundRoute ⊎ SeparatesRoutes arcs sources goal avoided
  find_route = elim (finite_reach (vertex_bound arcs sources) free_arc free_source goal) [
    | inl walk ↦ inl (found_route walk.0 walk.1)
    | inr none ↦ inr (record {
      meets = λ route leads reaches. elim (reached_or_met none.0 none.1 route leads) [
        | inl inside ↦ absurd (both_ways _ (none.2 (first_of route) inside) reaches)
        | inr met ↦ met
      ];
    })
  ]
