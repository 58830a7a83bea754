-- The fringe of a reached set: what offers do to the greatest entries of the elements outside it.
use Rattle.mat_exchange.proofs.Common.{◌≡◌, ◌≢◌, ℕ, ◌+◌, ◌<◌, Bool, true, false, not, ◌&&◌, ◌||◌, eqb, ltb, List, length, set, ◌⊎◌, inl, inr, refl, sym, ap, ◌∙◌, subst, arith, cases_Bool, cases_eq, cases_lt, both_ways, and_parts, and_from, and_right, eqb-true, eq-eqb, ne_eqb, lt-ltb, ltb-true, ints}
use Rattle.mat_exchange.proofs.Common.{get_or-set_same, get_or-set_other, is_member, with_one, is_member-with_one, IsFirstFrom, zero_weight, ◌≼◌, weight_at, Weight, pairs, at_most_trans, IsFringe, IsMet, IsOffered}

-- ---- offers

-- one offer after others, at another element
met_before : (f : Weight) (x : ℕ) (F F1 F2 : List ℕ) (g g1 g2 : ℕ → Weight) → IsMet f x F g F1 g1 → is_member x F2 ≡ is_member x F1
    → g2 x ≡ g1 x → IsMet f x F g F2 g2
met_before f x F F1 F2 g g1 g2 m same value = record {
  inside = same ∙ m.inside;
  own = rw value m.own;
  old = λ h. rw value (m.old h);
  from = rw value m.from;
}

-- and at an element that was not offered anything before
met_after : (f : Weight) (x : ℕ) (F F1 F2 : List ℕ) (g g1 g2 : ℕ → Weight) → IsMet f x F1 g1 F2 g2 → is_member x F1 ≡ is_member x F
    → g1 x ≡ g x → IsMet f x F g F2 g2
met_after f x F F1 F2 g g1 g2 m same value = record {
  inside = m.inside;
  own = m.own;
  old = λ h. subst (λ z. z ≼ g2 x) value (m.old (same ∙ h));
  from = elim m.from [
    | inl e ↦ inl e
    | inr k ↦ inr (sym same ∙ k.0, k.1 ∙ value)
  ];
}

pub offered_next : (test : ℕ → Bool) (f : ℕ → Weight) (from v : ℕ) (F F1 F2 : List ℕ) (g g1 g2 : ℕ → Weight) → IsFirstFrom test from v
    → IsOffered (λ x. test x && ltb x from) f F g F1 g1 → IsOffered (λ x. eqb x v) (λ x. f v) F1 g1 F2 g2
    → IsOffered (λ x. test x && ltb x (v + 1)) f F g F2 g2
offered_next test f from v F F1 F2 g g1 g2 first before one = record {
  met = λ x h. (let t = and_parts (test x) (ltb x (v + 1)) h in let l = ltb-true x (v + 1) t.1 in
      elim (cases_eq x v) [
        | inl same ↦ here x same
        | inr other ↦ elim (cases_lt x from) [
          | inl b ↦ (let k = one.kept x (ne_eqb x v other) in
              met_before (f x) x F F1 F2 g g1 g2 (before.met x (and_from (test x) (ltb x from) t.0 (lt-ltb x from b))) k.0 k.1)
          | inr c ↦ absurd (both_ways _ (first.none_before x c (omega arith)) t.0)
        ]
      ]);
  kept = λ x h. elim (cases_eq x v) [
    | inl same ↦ absurd (both_ways _ h (and_from (test x) (ltb x (v + 1)) (ap test same ∙ first.passes) (lt-ltb x (v + 1) (omega arith))))
    | inr other ↦ (let k = one.kept x (ne_eqb x v other) in let b = before.kept x (not_before x h other) in (k.0 ∙ b.0, k.1 ∙ b.1))
  ];
}
  where
    not_before : (x : ℕ) → (test x && ltb x (v + 1)) ≡ false → x ≢ v → (test x && ltb x from) ≡ false
    not_before x h other = elim (cases_Bool (test x && ltb x from)) [
      | inr out ↦ out
      | inl k ↦ absurd (let t = and_parts (test x) (ltb x from) k in let l = ltb-true x from t.1 in let r = first.reaches in
          both_ways _ h (and_from (test x) (ltb x (v + 1)) t.0 (lt-ltb x (v + 1) (omega arith))))
    ]

    at_v : IsMet (f v) v F g F2 g2
    at_v =
        let r = first.reaches in
        let b = before.kept v (and_right (test v) (ltb v from) (elim (cases_Bool (ltb v from)) [
          | inr out ↦ out
          | inl k ↦ absurd (let l = ltb-true v from k in omega arith)
        ])) in
        met_after (f v) v F F1 F2 g g1 g2 (one.met v (eq-eqb v v refl)) b.0 b.1

    here : (x : ℕ) → x ≡ v → IsMet (f x) x F g F2 g2
    here x same = subst (λ z. IsMet (f z) z F g F2 g2) (sym same) at_v

-- the same for tests and offers that agree
pub offered_same : (test test' : ℕ → Bool) (f f' : ℕ → Weight) (F F' : List ℕ) (g g' : ℕ → Weight) → ((x : ℕ) → test' x ≡ test x)
    → ((x : ℕ) → f' x ≡ f x) → IsOffered test f F g F' g' → IsOffered test' f' F g F' g'
offered_same test test' f f' F F' g g' same value o = record {
  met = λ x h. subst (λ z. IsMet z x F g F' g') (sym (value x)) (o.met x (sym (same x) ∙ h));
  kept = λ x h. o.kept x (sym (same x) ∙ h);
}

-- what is in a column: those that cannot be added, and, where the whole base can be exchanged, those that can
pub whole_test : (a t o : Bool) → (a ≡ true → t ≡ true) → (t && o) ≡ (((not a && t) && o) || (a && o))
whole_test true t o h = rw (h refl) (both o)
  where
    both : (b : Bool) → (true && b) ≡ ((false && b) || (true && b))
    both b = refl
whole_test false t o h = none (t && o)
  where
    none : (b : Bool) → b ≡ (b || false)
    none true = refl
    none false = refl

-- ---- the fringe

pub fringe_offered : (O F F' : List ℕ) (E E' : ℕ → Weight → Type 0) (test : ℕ → Bool) (f g g' : ℕ → Weight) → IsFringe O F E g
    → IsOffered test f F g F' g'
    → ((x : ℕ) → test x ≡ true → is_member x O ≡ true)
    → ((x : ℕ) → test x ≡ true → E' x (f x))
    → ((x : ℕ) (e : Weight) → E x e → E' x e)
    → ((x : ℕ) (e : Weight) → is_member x O ≡ true → E' x e → ((e0 : Weight) × (E x e0 × (e ≼ e0))) ⊎ ((test x ≡ true) × (e ≡ f x)))
    → IsFringe O F' E' g'
fringe_offered O F F' E E' test f g g' fringe o inside new more back = record {
  within = λ x m. elim (cases_Bool (test x)) [
    | inl t ↦ inside x t
    | inr t ↦ fringe.within x (sym (o.kept x t).0 ∙ m)
  ];
  has = λ x m. elim (cases_Bool (test x)) [
    | inl t ↦ elim (o.met x t).from [
      | inl e ↦ subst (E' x) (sym e) (new x t)
      | inr k ↦ subst (E' x) (sym k.1) (more x (g x) (fringe.has x k.0))
    ]
    | inr t ↦ (let k = o.kept x t in subst (E' x) (sym k.1) (more x (g x) (fringe.has x (sym k.0 ∙ m))))
  ];
  most = λ x e xo entry. elim (cases_Bool (test x)) [
    | inl t ↦ (let met = o.met x t in elim (back x e xo entry) [
      | inl before ↦ (let h = fringe.most x before.0 xo before.1.0 in let up = met.old h.0 in
          (met.inside, at_most_trans e (g x) (g' x) (at_most_trans e before.0 (g x) before.1.1 h.1) up))
      | inr now ↦ (met.inside, rw now.1 met.own)
    ])
    | inr t ↦ elim (back x e xo entry) [
      | inl before ↦ (let k = o.kept x t in let h = fringe.most x before.0 xo before.1.0 in
          (k.0 ∙ h.0, rw k.1 (at_most_trans e before.0 (g x) before.1.1 h.1)))
      | inr now ↦ absurd (both_ways _ t now.0)
    ]
  ];
}

-- ---- one offer

-- an element that was not in the set gets what it is offered
pub offered_one_new : (F F' : List ℕ) (gains : List Weight) (z : ℕ) (gain y : Weight) → z < length gains → F' ≡ with_one F z → y ≡ gain
    → is_member z F ≡ false
    → IsOffered (λ v. eqb v z) (λ v. gain) F (weight_at gains) F' (weight_at (set gains z y))
offered_one_new F F' gains z gain y l e same out = record {
  met = λ x h. (let at = eqb-true x z h in subst (λ v. IsMet gain v F (weight_at gains) F' (weight_at (set gains z y))) (sym at) here);
  kept = λ x h. (let other : x ≢ z = λ s. both_ways _ h (eq-eqb x z s) in
      (ap (is_member x) e ∙ is_member-with_one x z F ∙ ap (λ b. b || is_member x F) h, get_or-set_other gains z x y (zero_weight) other));
}
  where
    value : weight_at (set gains z y) z ≡ gain
    value = get_or-set_same gains z y (zero_weight) l ∙ same

    here : IsMet gain z F (weight_at gains) F' (weight_at (set gains z y))
    here = record {
      inside = ap (is_member z) e ∙ is_member-with_one z z F ∙ ap (λ b. b || is_member z F) (eq-eqb z z refl);
      own = rw value (omega (arith, ints, pairs));
      old = λ h. absurd (both_ways _ out h);
      from = inl value;
    }
