-- Fronts and rests of routes: a route that is cut at a vertex, and one that goes on there by another.
use Rattle.mat_flow.proofs.Common.{◌≡◌, ℕ, true, false, eqb, List, [], ◌∷◌, ◌++◌, refl, sym, ap, ◌∙◌, subst, both_ways, eq-eqb, or_left, is_member, is_member-head, first_of}
use Rattle.mat_flow.proofs.Routes.{LeadsBack}

-- where a route begins does not depend on what comes after a vertex of it
pub first_of-front : (v : ℕ) (front rest other : List ℕ) → first_of (front ++ v ∷ rest) ≡ first_of (front ++ v ∷ other)
first_of-front v [] rest other = refl
first_of-front v (u ∷ front) rest other = refl

-- a route that does not begin at v begins in the front before v
pub begins_before : (e v : ℕ) (front rest : List ℕ) → first_of (front ++ v ∷ rest) ≡ e → eqb v e ≡ false → is_member e front ≡ true
begins_before e v [] rest begins other = absurd (both_ways _ other (eq-eqb v e begins))
begins_before e v (u ∷ front) rest begins other = or_left (eqb e u) (is_member e front) (eq-eqb e u (sym begins))

module _ (arcs : List (ℕ × ℕ)) (sources : List ℕ) where
  -- a route holds its end
  pub first_of-member : (route : List ℕ) → LeadsBack arcs sources route → is_member (first_of route) route ≡ true
  first_of-member [] leads = absurd leads
  first_of-member (v ∷ rest) leads = is_member-head v rest

  pub LeadsBack-rest : (v : ℕ) (front rest : List ℕ) → LeadsBack arcs sources (front ++ v ∷ rest) → LeadsBack arcs sources (v ∷ rest)
  LeadsBack-rest v [] rest leads = leads
  LeadsBack-rest v (u ∷ []) rest leads = leads.1
  LeadsBack-rest v (u ∷ w ∷ front) rest leads = LeadsBack-rest v (w ∷ front) rest leads.1

  LeadsBack-cut : (v : ℕ) (front rest other : List ℕ) → LeadsBack arcs sources (front ++ v ∷ rest) → LeadsBack arcs sources (v ∷ other)
      → LeadsBack arcs sources (front ++ v ∷ other)
  LeadsBack-cut v [] rest other leads back = back
  LeadsBack-cut v (u ∷ []) rest other leads back = (leads.0, back)
  LeadsBack-cut v (u ∷ w ∷ front) rest other leads back = (leads.0, LeadsBack-cut v (w ∷ front) rest other leads.1 back)

  -- a route that goes on at v by another
  pub LeadsBack-on : (v : ℕ) (front rest route : List ℕ) → LeadsBack arcs sources (front ++ v ∷ rest) → first_of route ≡ v
      → LeadsBack arcs sources route
      → LeadsBack arcs sources (front ++ route)
  LeadsBack-on v front rest [] leads begins back = absurd back
  LeadsBack-on v front rest (u ∷ other) leads begins back =
      LeadsBack-cut u front rest other (subst (λ z. LeadsBack arcs sources (front ++ z ∷ rest)) (sym begins) leads) back

  pub first_of-on : (v : ℕ) (front rest route : List ℕ) → first_of route ≡ v → LeadsBack arcs sources route
      → first_of (front ++ route) ≡ first_of (front ++ v ∷ rest)
  first_of-on v front rest [] begins back = absurd back
  first_of-on v front rest (u ∷ other) begins back = first_of-front u front other rest ∙ ap (λ z. first_of (front ++ z ∷ rest)) begins
