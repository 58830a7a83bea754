-- Climbing in a rooted forest from two places, always from the later one, until both meet: the edges so far lead from the first vertex up to
-- one place and from the other place down to the second vertex. Each has an end at a place after both, so no edge is used twice.
use Rattle.mat_graphic.proofs.Common.{◌≡◌, ℕ, ◌<◌, ◌≢◌, max, true, false, ◌||◌, eqb, List, [], ◌∷◌, ◌++◌, length, get_or, Option, ◌⊎◌, inl, inr, refl, sym, ap, ◌∙◌, subst, arith, append_assoc, cases_lt, eqb-true, or_cases, or_parts, false≢true, false_from_ne_true, or_from, nat_tests, is_member}
use Rattle.mat_graphic.proofs.Common.{AreDistinct, with_one, Joins, Walk, is_member-append, is_member-with_one, eqb-turned, or_swap, least_merged, member_within, walk_append, walk_same, AreAfter, EndsAt, IsClimbing, IsOrder, IsTree, IsTrailSet}
use Rattle.mat_graphic.proofs.TrailScans.{order-differ}

-- ---- an edge between two lists

is_member-between : (z e : ℕ) (P Q : List ℕ) → is_member z (P ++ e ∷ Q) ≡ (eqb z e || is_member z (P ++ Q))
is_member-between z e [] Q = refl
is_member-between z e (x ∷ P) Q = ap (λ b. eqb z x || b) (is_member-between z e P Q) ∙ or_swap (eqb z x) (eqb z e) (is_member z (P ++ Q))

AreDistinct-between : (e : ℕ) (P Q : List ℕ) → AreDistinct (P ++ Q) → is_member e (P ++ Q) ≡ false → AreDistinct (P ++ e ∷ Q)
AreDistinct-between e [] Q d out = (out, d)
AreDistinct-between e (x ∷ P) Q d out =
    let parts = or_parts (eqb e x) (is_member e (P ++ Q)) out in
    (is_member-between x e P Q ∙ or_from (eqb x e) (is_member x (P ++ Q)) (eqb-turned x e ∙ parts.0) d.0, AreDistinct-between e P Q d.1 parts.1)

-- ---- the edges so far

module _ (ends : ℕ → ℕ × ℕ) (X : List ℕ) (order : List ℕ) where
  pub IsClimbing-start : (from to : ℕ) (with' : List ℕ) → with' ≡ [] → IsClimbing ends X order from to from to with'
  IsClimbing-start from to with' e = record {
    front = [];
    back = [];
    walk = refl;
    walk_back = refl;
    after = record {
      distinct = tt;
      inside = record { inside = λ z m. absurd (false≢true m) };
      far = λ f m. absurd (false≢true m);
      same = λ z. ap (is_member z) e;
    };
  }

  pub IsClimbing-end : (from to first second : ℕ) (with' : List ℕ) → first ≡ second → IsClimbing ends X order from to first second with'
      → IsTrailSet ends X (get_or order from 0) (get_or order to 0) with'
  IsClimbing-end from to first second with' e s = record {
    trail = record {
      edges = s.front ++ s.back;
      distinct = s.after.distinct;
      inside = s.after.inside;
      walk = walk_append ends s.front s.back (get_or order from 0) (get_or order first 0) (get_or order to 0) s.walk
          (subst (λ k. Walk ends s.back (get_or order k 0) (get_or order to 0)) (sym e) s.walk_back);
    };
    same = s.after.same;
  }

  module _ (place : List (Option ℕ)) (through before : List ℕ) (o : IsOrder place order through before)
      (t : IsTree ends X order through before) where
    -- one more edge, at the later place
    AreAfter-more : (high low : ℕ) (P Q with' : List ℕ) → high < length order → low < high → get_or before high 0 < high
        → AreAfter ends X order high (P ++ Q) with'
        → AreAfter ends X order (max (get_or before high 0) low) (P ++ get_or through high 0 ∷ Q) (with_one with' (get_or through high 0))
    AreAfter-more high low P Q with' inside under down s =
        let e = get_or through high 0 in
        let joins = t.joined high inside down in
        let out : is_member e (P ++ Q) ≡ false = false_from_ne_true _ (λ m. (let w = s.far e m in
        let above = w.1 in let small = w.2 in
        elim (at_end e w.0 w.3 joins) [
          | inl same ↦ (let k = order-differ place order through before o w.0 high small inside same in absurd (omega arith))
          | inr same ↦ (let k = order-differ place order through before o w.0 (get_or before high 0) small (omega arith) same in absurd
              (omega arith))
        ])) in
        record {
          distinct = AreDistinct-between e P Q s.distinct out;
          inside = record {
            inside = λ z m. elim (or_cases (eqb z e) (is_member z (P ++ Q)) (sym (is_member-between z e P Q) ∙ m))
                [ inl h ↦ ap (λ y. is_member y X) (eqb-true z e h) ∙ t.member high inside down | inr h ↦ s.inside.inside z h ];
          };
          far = λ f m. elim (or_cases (eqb f e) (is_member f (P ++ Q)) (sym (is_member-between f e P Q) ∙ m)) [
            | inl h ↦ (high, omega arith, inside, subst (λ y. EndsAt ends order y high) (sym (eqb-true f e h)) (own_end e joins))
            | inr h ↦ (let w = s.far f h in let above = w.1 in (w.0, omega arith, w.2, w.3))
          ];
          same = λ z. is_member-with_one z e with' ∙ ap (λ b. eqb z e || b) (s.same z) ∙ sym (is_member-between z e P Q);
        }
      where
        own_end : (e : ℕ) {u : ℕ} → Joins ends e (get_or order high 0) u → EndsAt ends order e high
        own_end e j = elim j [ inl a ↦ inl a.0 | inr a ↦ inr a.1 ]

        at_end : (e j : ℕ) → EndsAt ends order e j → Joins ends e (get_or order high 0) (get_or order (get_or before high 0) 0)
            → (get_or order j 0 ≡ get_or order high 0) ⊎ (get_or order j 0 ≡ get_or order (get_or before high 0) 0)
        at_end e j h k = elim h [
          | inl a ↦ elim k [ inl b ↦ inl (sym a ∙ b.0) | inr b ↦ inr (sym a ∙ b.0) ]
          | inr a ↦ elim k [ inl b ↦ inr (sym a ∙ b.1) | inr b ↦ inl (sym a ∙ b.1) ]
        ]

    turned_joins : {e v u : ℕ} → Joins ends e v u → Joins ends e u v
    turned_joins j = elim j [ inl a ↦ inr a | inr a ↦ inl a ]

    -- a step from the first place, where it is the later one
    pub IsClimbing-first : (from to first second : ℕ) (with' : List ℕ) → first < length order → second < first
        → get_or before first 0 < first → IsClimbing ends X order from to first second with'
        → IsClimbing ends X order from to (get_or before first 0) second (with_one with' (get_or through first 0))
    IsClimbing-first from to first second with' inside under down s =
        let e = get_or through first 0 in
        let high : max first second ≡ first = omega arith in
        record {
          front = s.front ++ e ∷ [];
          back = s.back;
          walk = walk_append ends s.front (e ∷ []) (get_or order from 0) (get_or order first 0) (get_or order (get_or before first 0) 0) s.walk
              (get_or order (get_or before first 0) 0, t.joined first inside down, refl);
          walk_back = s.walk_back;
          after = subst (λ L. AreAfter ends X order (max (get_or before first 0) second) L (with_one with' e))
              (sym (append_assoc s.front (e ∷ []) s.back))
              (AreAfter-more first second s.front s.back with' inside under down
              (subst (λ k. AreAfter ends X order k (s.front ++ s.back) with') high s.after));
        }

    -- a step from the second
    pub IsClimbing-second : (from to first second : ℕ) (with' : List ℕ) → second < length order → first < second
        → get_or before second 0 < second → IsClimbing ends X order from to first second with'
        → IsClimbing ends X order from to first (get_or before second 0) (with_one with' (get_or through second 0))
    IsClimbing-second from to first second with' inside under down s =
        let e = get_or through second 0 in
        let high : max first second ≡ second = omega arith in
        let low : max (get_or before second 0) first ≡ max first (get_or before second 0) = omega arith in
        record {
          front = s.front;
          back = e ∷ s.back;
          walk = s.walk;
          walk_back = (get_or order second 0, turned_joins (t.joined second inside down), s.walk_back);
          after = subst (λ k. AreAfter ends X order k (s.front ++ e ∷ s.back) (with_one with' e)) low
              (AreAfter-more second first s.front s.back with' inside under down
              (subst (λ k. AreAfter ends X order k (s.front ++ s.back) with') high s.after));
        }

    -- the step of the loop at the later place `high`, from which edge e leads to place b
    module _ (from to first second high b e : ℕ) (with' with'' : List ℕ) (small : first < length order) (small' : second < length order)
        (differ : first ≢ second) (top : high ≡ max first second) (up : get_or before high 0 ≡ b) (other : b ≢ high)
        (edge : get_or through high 0 ≡ e) (more : with'' ≡ with_one with' e) where
      pub IsClimbing-left : first ≡ high → IsClimbing ends X order from to first second with' → IsClimbing ends X order from to b second with''
      IsClimbing-left here s =
          let near : get_or before first 0 ≡ b = ap (λ k. get_or before k 0) here ∙ up in
          let less = o.earlier first small in
          subst (λ k. IsClimbing ends X order from to k second with'') near
          (subst (IsClimbing ends X order from to (get_or before first 0) second)
          (ap (with_one with') (ap (λ k. get_or through k 0) here ∙ edge) ∙ sym more)
          (IsClimbing-first from to first second with' small (omega arith) (omega arith) s))

      pub IsClimbing-right : first ≢ high → IsClimbing ends X order from to first second with' → IsClimbing ends X order from to first b with''
      IsClimbing-right below s =
          let here : second ≡ high = omega arith in
          let near : get_or before second 0 ≡ b = ap (λ k. get_or before k 0) here ∙ up in
          let less = o.earlier second small' in
          subst (λ k. IsClimbing ends X order from to first k with'') near
          (subst (IsClimbing ends X order from to first (get_or before second 0))
          (ap (with_one with') (ap (λ k. get_or through k 0) here ∙ edge) ∙ sym more)
          (IsClimbing-second from to first second with' small' (omega arith) (omega arith) s))

    -- where the later place is of a root, the vertices are in two components
    pub climbed_apart : (from to first second high : ℕ) (with' : List ℕ) → first < length order → second < length order → first ≢ second
        → high ≡ max first second → get_or before high 0 ≡ high → IsClimbing ends X order from to first second with'
        → least_merged ends X (get_or order from 0) ≢ least_merged ends X (get_or order to 0)
    climbed_apart from to first second high with' small small' differ top own s same =
        let up = walk_same ends X s.front (get_or order from 0) (get_or order first 0) (λ e m. member_within ends X e
        (s.after.inside.inside e (in_front e m))) s.walk in
        let down = walk_same ends X s.back (get_or order second 0) (get_or order to 0) (λ e m. member_within ends X e
        (s.after.inside.inside e (in_back e m))) s.walk_back in
        let met : least_merged ends X (get_or order first 0) ≡ least_merged ends X (get_or order second 0) = sym up ∙ same ∙ sym down in
        elim (cases_lt first second) [
          | inl less ↦ (let here : high ≡ second = omega arith in
              t.apart second small' (ap (λ k. get_or before k 0) (sym here) ∙ own ∙ here) first less met)
          | inr le ↦ (let here : high ≡ first = omega arith in
              t.apart first small (ap (λ k. get_or before k 0) (sym here) ∙ own ∙ here) second (omega arith) (sym met))
        ]
      where
        in_front : (e : ℕ) → is_member e s.front ≡ true → is_member e (s.front ++ s.back) ≡ true
        in_front e m = let h = is_member-append e s.front s.back in grind (arith, nat_tests)

        in_back : (e : ℕ) → is_member e s.back ≡ true → is_member e (s.front ++ s.back) ≡ true
        in_back e m = let h = is_member-append e s.front s.back in grind (arith, nat_tests)
