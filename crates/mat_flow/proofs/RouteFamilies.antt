-- Families of routes with fewer ends, with other terminals, and with one route more.
use Rattle.mat_flow.proofs.Common.{◌≡◌, ℕ, Bool, true, false, ◌||◌, eqb, List, sym, ap, ◌∙◌, subst, arith, inl, inr, both_ways, cases_Bool, cond_both, eqb-true, false_from_ne_true, is_member, with_one, IsRising, IsSubset, IsRising-with_one, set_members}
use Rattle.mat_flow.proofs.Routes.{IsRoute, AreRoutes, with_route}

module _ {arcs : List (ℕ × ℕ)} {sources : List ℕ} {target : ℕ → Bool} where
  pub AreRoutes-fewer : {terminal : ℕ → Bool} {ends : List ℕ} {route : ℕ → List ℕ} → AreRoutes arcs sources target terminal ends route
      → (fewer : List ℕ) → IsRising fewer → IsSubset fewer ends → AreRoutes arcs sources target terminal fewer route
  AreRoutes-fewer r fewer rises s = record {
    rises = rises;
    goals = λ e m. r.goals e (s.inside e m);
    each = λ e m. r.each e (s.inside e m);
    apart = λ e f v m n. r.apart e f v (s.inside e m) (s.inside f n);
  }

  pub AreRoutes-terminals : {terminal : ℕ → Bool} {ends : List ℕ} {route : ℕ → List ℕ}
      → AreRoutes arcs sources target terminal ends route
      → (other : ℕ → Bool) → ((e : ℕ) → is_member e ends ≡ true → (target e || other e) ≡ true)
      → ((e v : ℕ) → is_member e ends ≡ true → is_member v (route e) ≡ true → eqb v e ≡ false → other v ≡ false)
      → AreRoutes arcs sources target other ends route
  AreRoutes-terminals r other goals inner = record {
    rises = r.rises;
    goals = goals;
    each = λ e m. let i = r.each e m in record { begins = i.begins; leads = i.leads; distinct = i.distinct; inner = λ v. inner e v m };
    apart = r.apart;
  }

  -- a route that meets none of the others
  pub AreRoutes-with_one : {terminal : ℕ → Bool} {ends : List ℕ} {route : ℕ → List ℕ} (end : ℕ) (path : List ℕ)
      → AreRoutes arcs sources target terminal ends route → IsRoute arcs sources terminal end path → (target end || terminal end) ≡ true
      → ((v f : ℕ) → is_member v path ≡ true → is_member f ends ≡ true → is_member v (route f) ≡ false)
      → AreRoutes arcs sources target terminal (with_one ends end) (with_route end path route)
  AreRoutes-with_one {terminal} {ends} {route} end path r new goal misses = record {
    rises = IsRising-with_one ends end r.rises;
    goals = λ e m. elim (cases_Bool (eqb e end)) [
      | inl same ↦ ap (λ v. target v || terminal v) (eqb-true e end same) ∙ goal
      | inr other ↦ r.goals e (old e m other)
    ];
    each = λ e m. cond_both (eqb e end) path (route e) (IsRoute arcs sources terminal e)
        (λ same. subst (λ v. IsRoute arcs sources terminal v path) (sym (eqb-true e end same)) new) (λ other. r.each e (old e m other));
    apart = λ e f v m n differ. cond_both (eqb e end) path (route e)
        (λ p. is_member v p ≡ true → is_member v (with_route end path route f) ≡ false)
        (λ same h. cond_both (eqb f end) path (route f) (λ q. is_member v q ≡ false)
        (λ also. absurd (twice e f differ same also)) (λ other. misses v f h (old f n other)))
        (λ other h. cond_both (eqb f end) path (route f) (λ q. is_member v q ≡ false)
        (λ same. false_from_ne_true _ (λ k. both_ways _ (misses v e k (old e m other)) h))
        (λ too. r.apart e f v (old e m other) (old f n too) differ h));
  }
    where
      old : (e : ℕ) → is_member e (with_one ends end) ≡ true → eqb e end ≡ false → is_member e ends ≡ true
      old e m other = grind (arith, set_members)

      twice : (e f : ℕ) → eqb e f ≡ false → eqb e end ≡ true → eqb f end ≡ true → ⊥
      twice e f differ a b = let s = eqb-true e end a in let t = eqb-true f end b in grind arith
