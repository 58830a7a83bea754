-- A family with more terminals becomes one with fewer: two of its routes go on to further ends over vertices that were terminals, and
-- the others stay.
use Rattle.mat_flow.proofs.Common.{◌≡◌, ℕ, Bool, true, false, ◌||◌, eqb, List, ◌∷◌, ◌++◌, inl, inr, sym, ◌∙◌, arith, both_ways, cases_Bool, cond_both, false_from_ne_true, or_cases, or_from, or_left, is_member, with_one, IsRising, IsSubset, AreDistinct-append, AreDistinct-front, is_member-left}
use Rattle.mat_flow.proofs.Common.{is_member-right, members_differ, is_member-append, set_members}
use Rattle.mat_flow.proofs.RouteFamilies.{AreRoutes-fewer, AreRoutes-terminals, AreRoutes-with_one}
use Rattle.mat_flow.proofs.RoutePartLaws.{LeadsBack-on, first_of-on}
use Rattle.mat_flow.proofs.Routes.{IsRoute, AreRoutes, with_route}

-- the route to m goes on to e over a front that meets no route, and m is none of the ends that stay
pub record IsExtension (arcs : List (ℕ × ℕ)) (sources : List ℕ) (target terminal : ℕ → Bool) (ends : List ℕ) (route : ℕ → List ℕ)
    (kept : List ℕ)
    (e m : ℕ) (front : List ℕ) : Type 0 where
  pub is : IsRoute arcs sources terminal e (front ++ route m)
  pub goal : (target e || terminal e) ≡ true
  pub from : is_member m ends ≡ true
  pub leaves : is_member m kept ≡ false
  pub clear : (v f : ℕ) → is_member v front ≡ true → is_member f ends ≡ true → is_member v (route f) ≡ false

module _ {arcs : List (ℕ × ℕ)} {sources : List ℕ} {target more : ℕ → Bool} {ends : List ℕ} {route : ℕ → List ℕ}
    (family : AreRoutes arcs sources target more ends route) (terminal : ℕ → Bool)
    (fewer : (v : ℕ) → more v ≡ false → terminal v ≡ false) where
  -- a terminal that is no end is on no route
  pub terminal_missed : (v f : ℕ) → more v ≡ true → is_member v ends ≡ false → is_member f ends ≡ true
      → is_member v (route f) ≡ false
  terminal_missed v f is out m = false_from_ne_true _ (λ on. both_ways _ ((family.each f m).inner v on (members_differ v f ends out m)) is)

  -- a route that stays
  pub IsRoute-kept : (e : ℕ) → is_member e ends ≡ true → IsRoute arcs sources terminal e (route e)
  IsRoute-kept e m = let r = family.each e m in
      record { begins = r.begins; leads = r.leads; distinct = r.distinct; inner = λ v on other. fewer v (r.inner v on other) }

  -- the front of a route that is cut at m, and from there on the route to m
  pub IsRoute-extended : (e m : ℕ) (front rest : List ℕ) → IsRoute arcs sources terminal e (front ++ m ∷ rest) → is_member m ends ≡ true
      → ((v : ℕ) → is_member v front ≡ true → is_member v (route m) ≡ false) → IsRoute arcs sources terminal e (front ++ route m)
  IsRoute-extended e m front rest old inside clear =
      let r = family.each m inside in
      record {
        begins = first_of-on arcs sources m front rest (route m) r.begins r.leads ∙ old.begins;
        leads = LeadsBack-on arcs sources m front rest (route m) old.leads r.begins r.leads;
        distinct = AreDistinct-append front (route m) (AreDistinct-front front (m ∷ rest) old.distinct) r.distinct clear;
        inner = λ v on other. elim (or_cases (is_member v front) (is_member v (route m)) (sym (is_member-append v front (route m)) ∙ on)) [
          | inl before ↦ old.inner v (is_member-left v front (m ∷ rest) before) other
          | inr after ↦ elim (cases_Bool (eqb v m)) [
            | inl same ↦ old.inner v (also_middle v same) other
            | inr differs ↦ fewer v (r.inner v after differs)
          ]
        ];
      }
    where
      also_middle : (v : ℕ) → eqb v m ≡ true → is_member v (front ++ m ∷ rest) ≡ true
      also_middle v same = is_member-right v front (m ∷ rest) (or_left (eqb v m) (is_member v rest) same)

  -- ---- two extensions

  -- the extended route meets none that is not its own
  meets_none : (kept : List ℕ) (e m : ℕ) (front : List ℕ)
      → IsExtension arcs sources target terminal ends route kept e m front → (v f : ℕ) → is_member v (front ++ route m) ≡ true
      → is_member f ends ≡ true → eqb m f ≡ false → is_member v (route f) ≡ false
  meets_none kept e m front x v f on inside other =
      elim (or_cases (is_member v front) (is_member v (route m)) (sym (is_member-append v front (route m)) ∙ on)) [
        | inl before ↦ x.clear v f before inside
        | inr after ↦ family.apart m f v x.from inside other after
      ]

  pub two_extended : (kept : List ℕ) (e1 m1 e2 m2 : ℕ) (front1 front2 : List ℕ) → IsRising kept → IsSubset kept ends
      → ((e : ℕ) → is_member e kept ≡ true → (target e || terminal e) ≡ true)
      → IsExtension arcs sources target terminal ends route kept e1 m1 front1
      → IsExtension arcs sources target terminal ends route kept e2 m2 front2 → eqb m2 m1 ≡ false
      → ((v : ℕ) → is_member v front2 ≡ true → is_member v front1 ≡ false)
      → AreRoutes arcs sources target terminal (with_one (with_one kept e1) e2)
      (with_route e2 (front2 ++ route m2) (with_route e1 (front1 ++ route m1) route))
  two_extended kept e1 m1 e2 m2 front1 front2 rises inside goals x1 x2 differ apart =
      AreRoutes-with_one e2 (front2 ++ route m2)
      (AreRoutes-with_one e1 (front1 ++ route m1)
      (AreRoutes-terminals (AreRoutes-fewer family kept rises inside) terminal goals
      (λ e v m on other. fewer v ((family.each e (inside.inside e m)).inner v on other)))
      x1.is x1.goal (λ v f on m. meets_none kept e1 m1 front1 x1 v f on (inside.inside f m) (members_differ m1 f kept x1.leaves m)))
      x2.is x2.goal
      (λ v f on m. cond_both (eqb f e1) (front1 ++ route m1) (route f) (λ path. is_member v path ≡ false)
      (λ same. is_member-append v front1 (route m1) ∙ or_from _ _ (off_front v on) (meets_none kept e2 m2 front2 x2 v m1 on x1.from differ))
      (λ other. let k = old f m other in meets_none kept e2 m2 front2 x2 v f on (inside.inside f k) (members_differ m2 f kept x2.leaves k)))
    where
      old : (f : ℕ) → is_member f (with_one kept e1) ≡ true → eqb f e1 ≡ false → is_member f kept ≡ true
      old f m other = grind (arith, set_members)

      off_front : (v : ℕ) → is_member v (front2 ++ route m2) ≡ true → is_member v front1 ≡ false
      off_front v on = elim (or_cases (is_member v front2) (is_member v (route m2)) (sym (is_member-append v front2 (route m2)) ∙ on)) [
        | inl before ↦ apart v before
        | inr after ↦ false_from_ne_true _ (λ k. both_ways _ (x1.clear v m2 k x2.from) after)
      ]
