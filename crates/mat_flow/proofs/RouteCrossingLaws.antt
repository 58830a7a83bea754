-- A found route crosses a family: its first vertex on a route of the family, read back from its end. The route that it crosses is cut
-- there, and ends there from then on; the vertices that were left out become terminals.
use Rattle.mat_flow.proofs.Common.{◌≡◌, ℕ, Bool, true, false, ◌||◌, eqb, List, [], ◌∷◌, ◌++◌, ◌⊎◌, inl, inr, refl, sym, ap, ◌∙◌, subst, and_parts, both_ways, eqb-true, false_from_ne_true, false≢true, not-true, or_cases, or_from, or_left, or_parts, or_right, is_member, with_one, without_one}
use Rattle.mat_flow.proofs.Common.{AreDistinct-apart, AreDistinct-rest, is_member-middle, is_member-right, members_differ, IsRising-without_one, is_member-append, is_member-without_one, find_member, without_one-IsSubset}
use Rattle.mat_flow.proofs.RouteFamilies.{AreRoutes-fewer, AreRoutes-terminals, AreRoutes-with_one}
use Rattle.mat_flow.proofs.RoutePartLaws.{LeadsBack-rest, begins_before}
use Rattle.mat_flow.proofs.Routes.{IsRoute, AreRoutes, with_route, with_terminals}

-- the first vertex of a list that lies on a route of the family
pub record Meeting (ends : List ℕ) (route : ℕ → List ℕ) (path : List ℕ) : Type 0 where
  pub front : List ℕ
  pub at : ℕ
  pub rest : List ℕ
  pub splits : path ≡ front ++ at ∷ rest
  pub owner : ℕ
  pub owned : is_member owner ends ≡ true
  pub on : is_member at (route owner) ≡ true
  pub clear : (v f : ℕ) → is_member v front ≡ true → is_member f ends ≡ true → is_member v (route f) ≡ false

pub first_meeting : (ends : List ℕ) (route : ℕ → List ℕ) (path : List ℕ) → Meeting ends route path
    ⊎ ((v f : ℕ) → is_member v path ≡ true → is_member f ends ≡ true → is_member v (route f) ≡ false)
first_meeting ends route [] = inr (λ v f m. absurd (false≢true m))
first_meeting ends route (u ∷ path) = elim (find_member (λ f. is_member u (route f)) ends) [
  | inl found ↦ inl (record {
    front = [];
    at = u;
    rest = path;
    splits = refl;
    owner = found.0;
    owned = found.1;
    on = found.2;
    clear = λ v f m. absurd (false≢true m);
  })
  | inr none ↦ elim (first_meeting ends route path) [
    | inl later ↦ inl (record {
      front = u ∷ later.front;
      at = later.at;
      rest = later.rest;
      splits = ap (λ l. u ∷ l) later.splits;
      owner = later.owner;
      owned = later.owned;
      on = later.on;
      clear = λ v f m n. either u v f later.front (none f n) (λ k. later.clear v f k n) m;
    })
    | inr never ↦ inr (λ v f m n. either u v f path (none f n) (λ k. never v f k n) m)
  ]
]
  where
    either : (u v f : ℕ) (path : List ℕ) → is_member u (route f) ≡ false → (is_member v path ≡ true → is_member v (route f) ≡ false)
        → is_member v (u ∷ path) ≡ true → is_member v (route f) ≡ false
    either u v f path first later m = elim (or_cases (eqb v u) (is_member v path) m) [
      | inl same ↦ ap (λ z. is_member z (route f)) (eqb-true v u same) ∙ first
      | inr k ↦ later k
    ]

-- a route to a goal that avoids the ends of the family, and the first vertex of it on a route of the family, where both are split
pub record Crossing (arcs : List (ℕ × ℕ)) (sources : List ℕ) (goal : ℕ → Bool) (ends : List ℕ) (route : ℕ → List ℕ) : Type 0 where
  pub end : ℕ
  pub front : List ℕ
  pub at : ℕ
  pub rest : List ℕ
  pub found : IsRoute arcs sources goal end (front ++ at ∷ rest)
  pub reaches : goal end ≡ true
  pub avoids : (v : ℕ) → is_member v (front ++ at ∷ rest) ≡ true → is_member v ends ≡ false
  pub owner : ℕ
  pub owned : is_member owner ends ≡ true
  pub owner_front : List ℕ
  pub owner_rest : List ℕ
  pub splits : route owner ≡ owner_front ++ at ∷ owner_rest
  pub clear : (v f : ℕ) → is_member v front ≡ true → is_member f ends ≡ true → is_member v (route f) ≡ false

module _ {arcs : List (ℕ × ℕ)} {sources : List ℕ} {goal : ℕ → Bool} {ends : List ℕ} {route : ℕ → List ℕ}
    (c : Crossing arcs sources goal ends route) where
  -- the vertices that were left out, and the crossing
  abbrev pub cut_vertices : List ℕ
  cut_vertices = c.owner_front ++ c.at ∷ c.front

  -- the ends and the routes of the family that is cut at the crossing
  abbrev pub cut_ends : List ℕ
  cut_ends = with_one (without_one ends c.owner) c.at

  abbrev pub cut_route : ℕ → List ℕ
  cut_route = with_route c.at (c.at ∷ c.owner_rest) route

  pub on_owner : (v : ℕ) → is_member v (c.owner_front ++ c.at ∷ c.owner_rest) ≡ true → is_member v (route c.owner) ≡ true
  on_owner v m = ap (is_member v) c.splits ∙ m

  pub at_outside : is_member c.at ends ≡ false
  at_outside = c.avoids c.at (is_member-middle c.at c.front c.rest)

  pub at_not_owner : eqb c.at c.owner ≡ false
  at_not_owner = members_differ c.at c.owner ends at_outside c.owned

  -- an end that stays
  pub kept_end : (e : ℕ) → is_member e (without_one ends c.owner) ≡ true → (is_member e ends ≡ true) × (eqb e c.owner ≡ false)
  kept_end e m = let p = and_parts (is_member e ends) _ (sym (is_member-without_one e c.owner ends) ∙ m) in (p.0, not-true _ p.1)

  not_cut : (v : ℕ) → is_member v c.owner_front ≡ false → eqb v c.at ≡ false → is_member v c.front ≡ false
      → is_member v cut_vertices ≡ false
  not_cut v a b d = is_member-append v c.owner_front (c.at ∷ c.front) ∙ or_from _ _ a (or_from _ _ b d)

module _ {arcs : List (ℕ × ℕ)} {sources : List ℕ} {target terminal : ℕ → Bool} {ends : List ℕ} {route : ℕ → List ℕ}
    (family : AreRoutes arcs sources target terminal ends route) (c : Crossing arcs sources (λ v. target v || terminal v) ends route) where
  -- ---- the crossed route

  pub owner_route : IsRoute arcs sources terminal c.owner (c.owner_front ++ c.at ∷ c.owner_rest)
  owner_route = subst (IsRoute arcs sources terminal c.owner) c.splits (family.each c.owner c.owned)

  pub owner_in_front : is_member c.owner c.owner_front ≡ true
  owner_in_front = begins_before c.owner c.at c.owner_front c.owner_rest owner_route.begins (at_not_owner c)

  -- the crossing was no terminal
  pub at_free : terminal c.at ≡ false
  at_free = owner_route.inner c.at (is_member-middle c.at c.owner_front c.owner_rest) (at_not_owner c)

  -- ---- what meets none of the new terminals

  other_uncut : (e v : ℕ) → is_member e ends ≡ true → eqb e c.owner ≡ false → is_member v (route e) ≡ true
      → is_member v (cut_vertices c) ≡ false
  other_uncut e v m other on =
      let off = family.apart e c.owner v m c.owned other on in
      let p = or_parts (is_member v c.owner_front) _
      (sym (ap (is_member v) c.splits ∙ is_member-append v c.owner_front (c.at ∷ c.owner_rest)) ∙ off) in
      not_cut c v p.0 (or_parts (eqb v c.at) _ p.1).0 (false_from_ne_true _ (λ k. both_ways _ (c.clear v e k m) on))

  rest_inner : (v : ℕ) → is_member v (c.at ∷ c.owner_rest) ≡ true → eqb v c.at ≡ false
      → with_terminals terminal (cut_vertices c) v ≡ false
  rest_inner v m other =
      let off : is_member v c.owner_front ≡ false = false_from_ne_true _
      (λ k. both_ways _ (AreDistinct-apart c.owner_front (c.at ∷ c.owner_rest) v owner_route.distinct k) m) in
      let inside = is_member-right v c.owner_front (c.at ∷ c.owner_rest) m in
      or_from (terminal v) _ (owner_route.inner v inside (members_differ v c.owner c.owner_front off owner_in_front))
      (not_cut c v off other (false_from_ne_true _ (λ k. both_ways _ (c.clear v c.owner k c.owned) (on_owner c v inside))))

  -- ---- the cut family

  other_routes : AreRoutes arcs sources target (with_terminals terminal (cut_vertices c)) (without_one ends c.owner) route
  other_routes =
      AreRoutes-terminals
      (AreRoutes-fewer family (without_one ends c.owner) (IsRising-without_one ends c.owner family.rises) (without_one-IsSubset ends c.owner))
      (with_terminals terminal (cut_vertices c))
      (λ e m. wider (target e) (terminal e) _ (family.goals e (kept_end c e m).0))
      (λ e v m on other. let k = kept_end c e m in or_from (terminal v) _ ((family.each e k.0).inner v on other) (other_uncut e v k.0 k.1 on))
    where
      wider : (a b d : Bool) → (a || b) ≡ true → (a || (b || d)) ≡ true
      wider true b d h = refl
      wider false b d h = or_left b d h

  pub cut_routes : AreRoutes arcs sources target (with_terminals terminal (cut_vertices c)) (cut_ends c) (cut_route c)
  cut_routes =
      AreRoutes-with_one c.at (c.at ∷ c.owner_rest) other_routes
      (record {
        begins = refl;
        leads = LeadsBack-rest arcs sources c.at c.owner_front c.owner_rest owner_route.leads;
        distinct = AreDistinct-rest c.owner_front (c.at ∷ c.owner_rest) owner_route.distinct;
        inner = rest_inner;
      })
      (or_right (target c.at) _ (or_right (terminal c.at) _ (is_member-middle c.at c.owner_front c.front)))
      (λ v e on m. let k = kept_end c e m in
      false_from_ne_true _ (λ h. both_ways _ (family.apart e c.owner v k.0 c.owned k.1 h)
      (on_owner c v (is_member-right v c.owner_front (c.at ∷ c.owner_rest) on))))
