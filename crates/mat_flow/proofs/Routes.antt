-- Routes: paths of a directed graph from a source, read back from their end. To cut a path at a vertex is to leave out a front of its
-- route, and a path that goes on to a further end has a route with a longer front. A family of routes is a set of ends with a route
-- back from each.
use Rattle.mat_flow.proofs.Common.{◌≡◌, ℕ, Bool, true, false, ◌||◌, ◌==◌, ◌⊎◌, if◌then◌else◌, List, [], ◌∷◌, length, is_member, with_one, AreDistinct, IsRising, first_of, has_arc}

-- each vertex has an arc from the next one, and the last is a source
abbrev pub LeadsBack : List (ℕ × ℕ) → List ℕ → List ℕ → Type 0
LeadsBack arcs sources [] = ⊥
LeadsBack arcs sources (v ∷ []) = is_member v sources ≡ true
LeadsBack arcs sources (v ∷ u ∷ rest) = (has_arc arcs u v ≡ true) × LeadsBack arcs sources (u ∷ rest)

-- a route back from an end: no vertex stands twice, and none but the end is a terminal. A terminal is a vertex at which paths may end, as
-- at a target, but which none may pass
pub record IsRoute (arcs : List (ℕ × ℕ)) (sources : List ℕ) (terminal : ℕ → Bool) (end : ℕ) (route : List ℕ) : Type 0 where
  pub begins : first_of route ≡ end
  pub leads : LeadsBack arcs sources route
  pub distinct : AreDistinct route
  pub inner : (v : ℕ) → is_member v route ≡ true → (v == end) ≡ false → terminal v ≡ false

-- a family of routes: each end is a target or a terminal, and no two routes share a vertex
pub record AreRoutes (arcs : List (ℕ × ℕ)) (sources : List ℕ) (target terminal : ℕ → Bool) (ends : List ℕ)
    (route : ℕ → List ℕ) : Type 0 where
  pub rises : IsRising ends
  pub goals : (e : ℕ) → is_member e ends ≡ true → (target e || terminal e) ≡ true
  pub each : (e : ℕ) → is_member e ends ≡ true → IsRoute arcs sources terminal e (route e)
  pub apart : (e f v : ℕ) → is_member e ends ≡ true → is_member f ends ≡ true → (e == f) ≡ false
      → is_member v (route e) ≡ true → is_member v (route f) ≡ false

-- the routes, but this one to e
abbrev pub with_route : ℕ → List ℕ → (ℕ → List ℕ) → ℕ → List ℕ
with_route e path route f = if f == e then path else route f

-- the terminals, and these vertices
abbrev pub with_terminals : (ℕ → Bool) → List ℕ → ℕ → Bool
with_terminals terminal vertices v = terminal v || is_member v vertices

-- each route back from a goal meets one of these vertices
pub record SeparatesRoutes (arcs : List (ℕ × ℕ)) (sources : List ℕ) (goal : ℕ → Bool) (separator : List ℕ) : Type 0 where
  pub meets : (route : List ℕ) → LeadsBack arcs sources route → goal (first_of route) ≡ true
      → (v : ℕ) × (is_member v route ≡ true) × (is_member v separator ≡ true)

-- routes to these ends and to one more
pub record HasOneEndMore (arcs : List (ℕ × ℕ)) (sources : List ℕ) (target terminal : ℕ → Bool) (ends : List ℕ) : Type 0 where
  pub end : ℕ
  pub new : is_member end ends ≡ false
  pub route : ℕ → List ℕ
  pub routes : AreRoutes arcs sources target terminal (with_one ends end) route

-- a separator of as many vertices as there are ends
pub record HasRouteSeparator (arcs : List (ℕ × ℕ)) (sources : List ℕ) (target terminal : ℕ → Bool) (ends : List ℕ) : Type 0 where
  pub separator : List ℕ
  pub rises : IsRising separator
  pub separates : SeparatesRoutes arcs sources (λ v. target v || terminal v) separator
  pub size : length separator ≡ length ends

-- one end more, or such a separator
abbrev pub GrowsOrIsSeparated : List (ℕ × ℕ) → List ℕ → (ℕ → Bool) → (ℕ → Bool) → List ℕ → Type 0
GrowsOrIsSeparated arcs sources target terminal ends =
    HasOneEndMore arcs sources target terminal ends ⊎ HasRouteSeparator arcs sources target terminal ends
