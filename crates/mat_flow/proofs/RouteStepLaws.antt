-- A family of routes gets one end more, or a separator has as many vertices as it has ends. The proof is the induction of Boehme, Goering
-- and Harant (Diestel, chapter 3, the second proof of Menger's theorem). A search from the sources finds no route to a goal past the
-- ends: then the ends are a separator. It finds one that meets no route of the family: then that one is added. Otherwise the two routes
-- are cut where they cross, what was cut off becomes terminals, and the family with the crossing for an end has one end more or a
-- separator by induction: fewer vertices are no terminals. If the end that came lies on a part that was cut off, its route goes on over that
-- part, and the route to the crossing over the other one; if not, the route to the crossing goes on to its old end.
use Rattle.mat_flow.proofs.Common.{◌≡◌, ℕ, zero, suc, ◌<◌, Bool, true, false, not, ◌||◌, List, length, inl, inr, refl, ap, ◌∙◌, subst, arith, not_from_false, not_from_true, not-true, or_left, or_parts, or_right, those_below, is_member, length-exchange_one, is_member-middle, split_at}
use Rattle.mat_flow.proofs.Common.{length-those_below_less, first_of}
use Rattle.mat_flow.proofs.RouteCrossingLaws.{Crossing, Meeting, at_free, at_outside, cut_ends, cut_route, cut_routes, cut_vertices, first_meeting}
use Rattle.mat_flow.proofs.RouteFamilies.{AreRoutes-with_one}
use Rattle.mat_flow.proofs.RouteReturnLaws.{one_end_more_uncut}
use Rattle.mat_flow.proofs.VertexBoundLaws.{vertex_bound}
use Rattle.mat_flow.proofs.RoutePartLaws.{first_of-member}
use Rattle.mat_flow.proofs.Routes.{HasOneEndMore, GrowsOrIsSeparated, IsRoute, AreRoutes, with_route, with_terminals}
use Rattle.mat_flow.proofs.RouteSearchLaws.{FoundRoute, find_route}

module _ (arcs : List (ℕ × ℕ)) (sources : List ℕ) (target : ℕ → Bool) where
  -- what holds of the cut family: one end more, or a separator, which is one before the cut too
  step_uncut : {terminal : ℕ → Bool} {ends : List ℕ} {route : ℕ → List ℕ} → AreRoutes arcs sources target terminal ends route
      → (c : Crossing arcs sources (λ v. target v || terminal v) ends route)
      → GrowsOrIsSeparated arcs sources target (with_terminals terminal (cut_vertices c)) (cut_ends c)
      → GrowsOrIsSeparated arcs sources target terminal ends
  step_uncut family c (inl more) = inl (one_end_more_uncut family c more)
  step_uncut {terminal} {ends} family c (inr s) = inr (record {
    separator = s.separator;
    rises = s.rises;
    separates =
        record { meets = λ path leads reaches. s.separates.meets path leads (wider (target (first_of path)) (terminal (first_of path)) _ reaches) };
    size = s.size ∙ length-exchange_one ends c.at c.owner family.rises c.owned (at_outside c);
  })
    where
      wider : (a b d : Bool) → (a || b) ≡ true → (a || (b || d)) ≡ true
      wider true b d h = h
      wider false b d h = or_left b d h

  -- where a found route meets the family
  crossing_at : (terminal : ℕ → Bool) (ends : List ℕ) (route : ℕ → List ℕ)
      (f : FoundRoute arcs sources (λ v. target v || terminal v) ends)
      → Meeting ends route f.route → (c : Crossing arcs sources (λ v. target v || terminal v) ends route) × (c.at < vertex_bound arcs sources)
  crossing_at terminal ends route f m =
      let s = split_at m.at (route m.owner) m.on in (
        record {
          end = f.end;
          front = m.front;
          at = m.at;
          rest = m.rest;
          found = subst (IsRoute arcs sources (λ v. target v || terminal v) f.end) m.splits f.is;
          reaches = f.reaches;
          avoids = λ v on. f.avoids v (ap (is_member v) m.splits ∙ on);
          owner = m.owner;
          owned = m.owned;
          owner_front = s.before;
          owner_rest = s.after;
          splits = s.splits;
          clear = m.clear;
        },
        f.below m.at (ap (is_member m.at) m.splits ∙ is_member-middle m.at m.front m.rest),
      )

  -- a found route that meets no route of the family
  found_added : (terminal : ℕ → Bool) (ends : List ℕ) (route : ℕ → List ℕ) → AreRoutes arcs sources target terminal ends route
      → (f : FoundRoute arcs sources (λ v. target v || terminal v) ends)
      → ((v e : ℕ) → is_member v f.route ≡ true → is_member e ends ≡ true → is_member v (route e) ≡ false)
      → HasOneEndMore arcs sources target terminal ends
  found_added terminal ends route family f clear =
      let i = f.is in
      record {
        end = f.end;
        new = f.avoids f.end (subst (λ z. is_member z f.route ≡ true) i.begins (first_of-member arcs sources f.route i.leads));
        route = with_route f.end f.route route;
        routes = AreRoutes-with_one f.end f.route family
            (record {
              begins = i.begins;
              leads = i.leads;
              distinct = i.distinct;
              inner = λ v on other. (or_parts (target v) _ (i.inner v on other)).1;
            })
            f.reaches clear;
      }

  -- how many vertices are no terminals
  count_free : (ℕ → Bool) → ℕ
  count_free terminal = length (those_below (vertex_bound arcs sources) (λ v. not (terminal v)))

  fewer_free : {terminal : ℕ → Bool} {ends : List ℕ} {route : ℕ → List ℕ} → AreRoutes arcs sources target terminal ends route
      → (c : Crossing arcs sources (λ v. target v || terminal v) ends route) → c.at < vertex_bound arcs sources
      → count_free (with_terminals terminal (cut_vertices c)) < count_free terminal
  unfolding count_free
  fewer_free {terminal} family c below =
      length-those_below_less (vertex_bound arcs sources) c.at (λ v. not (with_terminals terminal (cut_vertices c) v)) (λ v. not (terminal v))
      (λ v l free. not_from_false _ (or_parts (terminal v) _ (not-true _ free)).0) below
      (not_from_true _ (or_right (terminal c.at) _ (is_member-middle c.at c.owner_front c.front)))
      (not_from_false _ (at_free family c))

  step_by : (fuel : ℕ) (terminal : ℕ → Bool) (ends : List ℕ) (route : ℕ → List ℕ) → AreRoutes arcs sources target terminal ends route
      → count_free terminal < fuel → GrowsOrIsSeparated arcs sources target terminal ends
  step_by zero terminal ends route family less = absurd (omega arith)
  step_by (suc fuel) terminal ends route family less = elim (find_route arcs sources (λ v. target v || terminal v) ends) [
    | inr none ↦ inr (record { separator = ends; rises = family.rises; separates = none; size = refl })
    | inl f ↦ elim (first_meeting ends route f.route) [
      | inr clear ↦ inl (found_added terminal ends route family f clear)
      | inl m ↦ (let c = crossing_at terminal ends route f m in
          step_uncut family c.0 (step_by fuel (with_terminals terminal (cut_vertices c.0)) (cut_ends c.0) (cut_route c.0) (cut_routes family c.0)
          (let fewer = fewer_free family c.0 c.1 in omega arith)))
    ]
  ]

  -- one end more, or a separator of as many vertices as there are ends
  pub routes_step : (ends : List ℕ) (route : ℕ → List ℕ) → AreRoutes arcs sources target (λ v. false) ends route
      → GrowsOrIsSeparated arcs sources target (λ v. false) ends
  routes_step ends route family = step_by (suc (count_free (λ v. false))) (λ v. false) ends route family (omega arith)
