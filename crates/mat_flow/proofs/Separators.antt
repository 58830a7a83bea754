-- The frontier of what the sources reach in the residual graph separates: along a path from a source, each reached vertex that is not of the
-- frontier is before a reached vertex, which an arc leads on from to the next vertex of the path; and at a target such a vertex would be a
-- goal.
use Rattle.mat_flow.proofs.Common.{◌≡◌, ℕ, ◌<◌, true, false, not, eqb, List, [], ◌∷◌, length, Option, Some, inl, inr, refl, ap, ◌∙◌, and_from, both_ways, cases_Bool, eq-eqb, or_left, or_right, ends_of, is_member, AllBelow, IsRising, IsReachedSet, AllBelow-member, is_member-head, entry_at, is_before}
use Rattle.mat_flow.proofs.Common.{is_member_there, leads_to, residual_arc, residual_goal, IsFrontier, first_of, has_arc, last_of, IsPath, IsSeparator}
use Rattle.mat_flow.proofs.Frontiers.{is_before_gives}
use Rattle.mat_flow.proofs.Rows.{head_below}

module _ (vertices : ℕ) (arcs : List (ℕ × ℕ)) (sources targets : List ℕ) (before : List (Option ℕ)) (reached : List ℕ)
    (reach : IsReachedSet vertices (residual_arc arcs before) (λ v. is_member v sources) reached) where
  -- the vertex before a reached vertex is reached
  pub before_reached : ((v u : ℕ) → entry_at before v ≡ Some u → u < vertices) → (v u : ℕ) → is_member v reached ≡ true
      → entry_at before v ≡ Some u → is_member u reached ≡ true
  before_reached below v u m e =
      reach.closed v u m (below v u e) (ap (λ x. leads_to arcs x u) e ∙ or_left (eqb u u) (has_arc arcs u u) (eq-eqb u u refl))

module _ (vertices : ℕ) (arcs : List (ℕ × ℕ)) (sources targets : List ℕ) (before : List (Option ℕ)) (reached separator : List ℕ)
    (heads : (e : ℕ) → e < length arcs → (ends_of arcs e).1 < vertices)
    (reach : IsReachedSet vertices (residual_arc arcs before) (λ v. is_member v sources) reached)
    (missed : (v : ℕ) → is_member v reached ≡ true → residual_goal targets before v ≡ false) (f : IsFrontier before reached separator) where
  -- a reached vertex is of the frontier, or is before a reached vertex
  leads_on : (x : ℕ) → is_member x reached ≡ true → is_member x separator ≡ false
      → (v : ℕ) × (is_member v reached ≡ true) × (entry_at before v ≡ Some x)
  leads_on x m out = elim (cases_Bool (is_before before reached x)) [
    | inl met ↦ is_before_gives before reached x met
    | inr none ↦ absurd (both_ways (is_member x separator) out
        (f.members x ∙ and_from (is_member x reached) (not (is_before before reached x)) m (ap not none)))
  ]

  met_along : (path : List ℕ) → IsPath arcs path → is_member (first_of path) reached ≡ true → is_member (last_of path) targets ≡ true
      → (v : ℕ) × (is_member v path ≡ true) × (is_member v separator ≡ true)
  met_along [] p m t = absurd p
  met_along (x ∷ []) p m t = elim (cases_Bool (is_member x separator)) [
    | inl met ↦ (x, is_member-head x [], met)
    | inr out ↦ (let w = leads_on x m out in absurd (both_ways _ (missed w.0 w.1) (ap (λ e. is_member_there e targets) w.2 ∙ t)))
  ]
  met_along (x ∷ y ∷ rest) p m t = elim (cases_Bool (is_member x separator)) [
    | inl met ↦ (x, is_member-head x (y ∷ rest), met)
    | inr out ↦ (let w = leads_on x m out in
        let next = reach.closed w.0 y w.1 (head_below vertices arcs x y heads p.0)
        (ap (λ e. leads_to arcs e y) w.2 ∙ or_right (eqb y x) (has_arc arcs x y) p.0) in
        let found = met_along (y ∷ rest) p.1 next t in
        (found.0, or_right (eqb found.0 x) (is_member found.0 (y ∷ rest)) found.1, found.2))
  ]

  pub IsSeparator-frontier : AllBelow vertices sources → IsRising separator → IsSeparator arcs sources targets separator
  IsSeparator-frontier below rises = record {
    rises = rises;
    meets = λ path p. met_along path p.joined
        (reach.starts (first_of path) (AllBelow-member vertices sources (first_of path) below p.starts) p.starts) p.ends;
  }
