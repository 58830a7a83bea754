-- Disjoint paths, as a list of them, are a family of routes back from their last vertices; and a family of routes gives disjoint paths to
-- any of its ends.
use Rattle.mat_flow.proofs.Common.{◌≡◌, ℕ, Bool, true, false, ◌||◌, eqb, List, [], ◌∷◌, ◌++◌, map, reverse, inl, inr, refl, sym, ap, ◌∙◌, both_ways, cond_both, eqb-true, false_from_ne_true, false≢true, or_cases, or_left, All-cons, All-head, All-nil, All-tail, is_member, union, with_one, AreDistinct}
use Rattle.mat_flow.proofs.Common.{IsRising, AreDistinct-append, AreDistinct-apart, AreDistinct-front, AreDistinct-rest, AreDistinct-reverse, is_member-left, is_member-reverse, is_member-right, is_member-tail, member_differs, IsRising-nil, is_member-append, is_member-head, is_member-union, or_none}
use Rattle.mat_flow.proofs.Common.{last_of, AreDisjointPaths, IsPathBetween, IsSeparator}
use Rattle.std.specs.List.{All, concat}
use Rattle.mat_flow.proofs.RouteFamilies.{AreRoutes-with_one}
use Rattle.mat_flow.proofs.Routes.{AreRoutes, SeparatesRoutes, with_route}
use Rattle.mat_flow.proofs.TurnedPathLaws.{IsPathTo-reverse, LeadsBack-reverse, first_of-reverse, last_of-member}

-- ---- from paths to routes

-- the set of the last vertices
abbrev pub ends_of : List (List ℕ) → List ℕ
ends_of paths = union (map last_of paths) []

-- the path that ends there, turned round
abbrev pub route_to : List (List ℕ) → ℕ → List ℕ
route_to [] e = []
route_to (path ∷ paths) e = with_route (last_of path) (reverse path) (route_to paths) e

pub is_member-ends_of : (v : ℕ) (paths : List (List ℕ)) → is_member v (ends_of paths) ≡ is_member v (map last_of paths)
is_member-ends_of v paths = is_member-union v (map last_of paths) [] ∙ or_none (is_member v (map last_of paths))

route_to-inside : (paths : List (List ℕ)) (e v : ℕ) → is_member v (route_to paths e) ≡ true → is_member v (concat paths) ≡ true
route_to-inside [] e v m = m
route_to-inside (path ∷ paths) e v m =
    cond_both (eqb e (last_of path)) (reverse path) (route_to paths e) (λ p. is_member v p ≡ true → is_member v (path ++ concat paths) ≡ true)
    (λ same k. is_member-left v path (concat paths) (sym (is_member-reverse v path) ∙ k))
    (λ other k. is_member-right v path (concat paths) (route_to-inside paths e v k)) m

module _ (arcs : List (ℕ × ℕ)) (sources targets : List ℕ) where
  pub last_inside : (path : List ℕ) → IsPathBetween arcs sources targets path → is_member (last_of path) path ≡ true
  last_inside path p = last_of-member arcs sources path p.joined p.starts

  ends_inside : (paths : List (List ℕ)) → All (IsPathBetween arcs sources targets) paths → (v : ℕ)
      → is_member v (map last_of paths) ≡ true
      → is_member v (concat paths) ≡ true
  ends_inside [] all v m = m
  ends_inside (path ∷ paths) all v m = elim (or_cases (eqb v (last_of path)) (is_member v (map last_of paths)) m) [
    | inl same ↦ is_member-left v path (concat paths) (ap (λ z. is_member z path) (eqb-true v (last_of path) same)
        ∙ last_inside path (All-head (IsPathBetween arcs sources targets) path paths all))
    | inr later ↦ is_member-right v path (concat paths) (ends_inside paths (All-tail (IsPathBetween arcs sources targets) path paths all) v later)
  ]

  -- disjoint paths end at different vertices
  pub AreDistinct-ends : (paths : List (List ℕ)) → AreDisjointPaths arcs sources targets paths → AreDistinct (map last_of paths)
  AreDistinct-ends [] d = tt
  AreDistinct-ends (path ∷ paths) d =
      let rest = All-tail (IsPathBetween arcs sources targets) path paths d.each in
      let inside = last_inside path (All-head (IsPathBetween arcs sources targets) path paths d.each) in (
        false_from_ne_true _ (λ m. both_ways _ (AreDistinct-apart path (concat paths) (last_of path) d.distinct inside)
            (ends_inside paths rest (last_of path) m)),
        AreDistinct-ends paths (record { each = rest; distinct = AreDistinct-rest path (concat paths) d.distinct }),
      )

  pub AreRoutes-paths : (paths : List (List ℕ)) → AreDisjointPaths arcs sources targets paths
      → AreRoutes arcs sources (λ v. is_member v targets) (λ v. false) (ends_of paths) (route_to paths)
  unfolding union with_one
  AreRoutes-paths [] d = record {
    rises = IsRising-nil;
    goals = λ e m. absurd (false≢true m);
    each = λ e m. absurd (false≢true m);
    apart = λ e f v m. absurd (false≢true m);
  }
  AreRoutes-paths (path ∷ paths) d =
      let p = All-head (IsPathBetween arcs sources targets) path paths d.each in
      AreRoutes-with_one (last_of path) (reverse path)
      (AreRoutes-paths paths (record {
        each = All-tail (IsPathBetween arcs sources targets) path paths d.each;
        distinct = AreDistinct-rest path (concat paths) d.distinct;
      }))
      (record {
        begins = first_of-reverse arcs sources path p.joined;
        leads = LeadsBack-reverse arcs sources path p.joined p.starts;
        distinct = AreDistinct-reverse path (AreDistinct-front path (concat paths) d.distinct);
        inner = λ v m other. refl;
      })
      (or_left _ false p.ends)
      (λ v f on m. false_from_ne_true _ (λ k. both_ways _
      (AreDistinct-apart path (concat paths) v d.distinct (sym (is_member-reverse v path) ∙ on)) (route_to-inside paths f v k)))

  -- what meets each route meets each path
  pub IsSeparator-routes : (separator : List ℕ) → IsRising separator
      → SeparatesRoutes arcs sources (λ v. is_member v targets || false) separator
      → IsSeparator arcs sources targets separator
  IsSeparator-routes separator rises s = record {
    rises = rises;
    meets = λ path p. (let m = s.meets (reverse path) (LeadsBack-reverse arcs sources path p.joined p.starts)
        (or_left _ false (ap (λ v. is_member v targets) (first_of-reverse arcs sources path p.joined) ∙ p.ends)) in
        (m.0, sym (is_member-reverse m.0 path) ∙ m.1, m.2));
  }

-- ---- from routes to paths

-- the routes to these ends, turned round
abbrev pub paths_to : (ℕ → List ℕ) → List ℕ → List (List ℕ)
paths_to route ends = map (λ e. reverse (route e)) ends

paths_inside : (route : ℕ → List ℕ) (some : List ℕ) (v : ℕ) → is_member v (concat (paths_to route some)) ≡ true
    → (e : ℕ) × (is_member e some ≡ true) × (is_member v (route e) ≡ true)
paths_inside route [] v m = absurd (false≢true m)
paths_inside route (e ∷ some) v m =
    elim (or_cases (is_member v (reverse (route e))) _ (sym (is_member-append v (reverse (route e)) (concat (paths_to route some))) ∙ m)) [
      | inl here ↦ (e, is_member-head e some, sym (is_member-reverse v (route e)) ∙ here)
      | inr later ↦ (let w = paths_inside route some v later in (w.0, is_member-tail w.0 e some w.1, w.2))
    ]

module _ {arcs : List (ℕ × ℕ)} {sources : List ℕ} {target terminal : ℕ → Bool} {ends : List ℕ} {route : ℕ → List ℕ}
    (family : AreRoutes arcs sources target terminal ends route) where
  pub last_of-paths_to : (some : List ℕ) → ((e : ℕ) → is_member e some ≡ true → is_member e ends ≡ true)
      → map last_of (paths_to route some) ≡ some
  last_of-paths_to [] inside = refl
  last_of-paths_to (e ∷ some) inside =
      let r = family.each e (inside e (is_member-head e some)) in
      ap (λ v. v ∷ map last_of (paths_to route some)) ((IsPathTo-reverse arcs sources (route e) r.leads).ends ∙ r.begins)
      ∙ ap (λ l. e ∷ l) (last_of-paths_to some (λ f m. inside f (is_member-tail f e some m)))

  paths_distinct : (some : List ℕ) → AreDistinct some → ((e : ℕ) → is_member e some ≡ true → is_member e ends ≡ true)
      → AreDistinct (concat (paths_to route some))
  paths_distinct [] d inside = tt
  paths_distinct (e ∷ some) d inside =
      let here = inside e (is_member-head e some) in
      AreDistinct-append (reverse (route e)) (concat (paths_to route some)) (AreDistinct-reverse (route e) (family.each e here).distinct)
      (paths_distinct some d.1 (λ f m. inside f (is_member-tail f e some m)))
      (λ v on. false_from_ne_true _ (λ k. (let w = paths_inside route some v k in
      both_ways _ (family.apart w.0 e v (inside w.0 (is_member-tail w.0 e some w.1)) here (member_differs w.0 e some w.1 d.0) w.2)
      (sym (is_member-reverse v (route e)) ∙ on))))

module _ (arcs : List (ℕ × ℕ)) (sources targets : List ℕ) where
  path_between : {ends : List ℕ} {route : ℕ → List ℕ} → AreRoutes arcs sources (λ v. is_member v targets) (λ v. false) ends route
      → (e : ℕ) → is_member e ends ≡ true → IsPathBetween arcs sources targets (reverse (route e))
  path_between {ends} {route} family e m =
      let r = family.each e m in
      let p = IsPathTo-reverse arcs sources (route e) r.leads in
      record {
        joined = p.joined;
        starts = p.starts;
        ends = ap (λ v. is_member v targets) (p.ends ∙ r.begins) ∙ alone (is_member e targets) (family.goals e m);
      }
    where
      alone : (a : Bool) → (a || false) ≡ true → a ≡ true
      alone true h = refl
      alone false h = h

  paths_each : {ends : List ℕ} {route : ℕ → List ℕ} → AreRoutes arcs sources (λ v. is_member v targets) (λ v. false) ends route
      → (some : List ℕ) → ((e : ℕ) → is_member e some ≡ true → is_member e ends ≡ true)
      → All (IsPathBetween arcs sources targets) (paths_to route some)
  paths_each family [] inside = All-nil (IsPathBetween arcs sources targets)
  paths_each {ends} {route} family (e ∷ some) inside =
      All-cons (IsPathBetween arcs sources targets) (reverse (route e)) (paths_to route some)
      (path_between family e (inside e (is_member-head e some)))
      (paths_each family some (λ f m. inside f (is_member-tail f e some m)))

  -- a family of routes, as disjoint paths to some of its ends
  pub AreDisjointPaths-routes : {ends : List ℕ} {route : ℕ → List ℕ}
      → AreRoutes arcs sources (λ v. is_member v targets) (λ v. false) ends route
      → (some : List ℕ) → AreDistinct some → ((e : ℕ) → is_member e some ≡ true → is_member e ends ≡ true)
      → AreDisjointPaths arcs sources targets (paths_to route some)
  AreDisjointPaths-routes family some d inside = record { each = paths_each family some inside; distinct = paths_distinct family some d inside }
