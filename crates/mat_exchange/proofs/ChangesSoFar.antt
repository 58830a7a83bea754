-- Weights of a reached set that are changed only at the end, by one number: what is kept of each member is its weight when it entered, less the
-- change until then, so that a step of the change alters the number alone, and a new member alone gets a new entry.
use Rattle.mat_exchange.proofs.Common.{◌≡◌, ◌≢◌, ℕ, ◌^◌, ◌<◌, Bool, true, false, ◌&&◌, not, cond, eqb, List, Option, Some, None, ◌⊎◌, inl, inr, refl, sym, ap, ◌∙◌, subst, arith, cases_Bool, cases_eq, both_ways, and_parts, and_from, and_left, cond-true, cond-false, eq-eqb, false≢true, ne_eqb, ints}
use Rattle.mat_exchange.proofs.Common.{is_member, with_one, without_one, is_member-without_one, zero_weight, ◌⊕◌, ◌⊖◌, ◌≼◌, is_below, IsWeightWithin, Weight, pairs, at_most_same, at_most_both, at_most_trans, below_at_most, not_below_gives, Exchanges, lowered, raised, IsAdditionSlack, IsLeast}
use Rattle.mat_exchange.proofs.Common.{IsHeaviestWeight, IsHeaviestWeightOrNone, greater_of, IsFringe, IsOffered, excess_of, entry_gain, heaviest_addable_gives, heaviest_addable_from}
use Rattle.mat_exchange.proofs.NewMembers.{kept_member, new_member, other_member, new_or_kept}
use Rattle.mat_exchange.proofs.WeightChanges.{lowered-member, lowered-outside, raised-member, raised-outside}

-- ---- one change after another

pub lowered_twice : (w : ℕ → Weight) (R : List ℕ) (t e d : Weight) → e ≡ d ⊖ t → (z : ℕ)
    → lowered (lowered w R t) R e z ≡ lowered w R d z
lowered_twice w R t e d h z = elim (cases_Bool (is_member z R)) [
  | inl k ↦ lowered-member (lowered w R t) R e z k ∙ ap (λ (a : Weight). a ⊖ e) (lowered-member w R t z k) ∙ less (w z)
      ∙ sym (lowered-member w R d z k)
  | inr k ↦ lowered-outside (lowered w R t) R e z k ∙ lowered-outside w R t z k ∙ sym (lowered-outside w R d z k)
]
  where
    less : (a : Weight) → (a ⊖ t) ⊖ e ≡ a ⊖ d
    less a = omega (arith, ints, pairs)

pub raised_twice : (w : ℕ → Weight) (R : List ℕ) (t e d : Weight) → e ≡ d ⊖ t → (z : ℕ)
    → raised (raised w R t) R e z ≡ raised w R d z
raised_twice w R t e d h z = elim (cases_Bool (is_member z R)) [
  | inl k ↦ raised-member (raised w R t) R e z k ∙ ap (λ (a : Weight). a ⊕ e) (raised-member w R t z k) ∙ more (w z)
      ∙ sym (raised-member w R d z k)
  | inr k ↦ raised-outside (raised w R t) R e z k ∙ raised-outside w R t z k ∙ sym (raised-outside w R d z k)
]
  where
    more : (a : Weight) → (a ⊕ t) ⊕ e ≡ a ⊕ d
    more a = omega (arith, ints, pairs)

-- ---- a new member

-- what enters with the change put on it is as before the change
module _ (w w' : ℕ → Weight) (R : List ℕ) (x : ℕ) (d : Weight) (out : is_member x R ≡ false) where
  pub lowered_entered : ((z : ℕ) → w' z ≡ cond (eqb z x) (w z ⊕ d) (w z)) → (z : ℕ) → lowered w R d z ≡ lowered w' (with_one R x) d z
  lowered_entered h z = elim (cases_eq z x) [
    | inl e ↦ lowered-outside w R d z (ap (λ v. is_member v R) e ∙ out) ∙ back (w z)
        ∙ ap (λ (a : Weight). a ⊖ d) (sym (h z ∙ cond-true (eqb z x) _ _ (eq-eqb z x e)))
        ∙ sym (lowered-member w' (with_one R x) d z (new_member x z R e))
    | inr o ↦ (let same : w' z ≡ w z = h z ∙ cond-false (eqb z x) _ _ (ne_eqb z x o) in
        ap (λ b. cond b (w z ⊖ d) (w z)) (sym (other_member x z R o))
        ∙ ap (λ (a : Weight). cond (is_member z (with_one R x)) (a ⊖ d) a) (sym same))
  ]
    where
      back : (a : Weight) → a ≡ (a ⊕ d) ⊖ d
      back a = omega (arith, ints, pairs)

  pub raised_entered : ((z : ℕ) → w' z ≡ cond (eqb z x) (w z ⊖ d) (w z)) → (z : ℕ) → raised w R d z ≡ raised w' (with_one R x) d z
  raised_entered h z = elim (cases_eq z x) [
    | inl e ↦ raised-outside w R d z (ap (λ v. is_member v R) e ∙ out) ∙ back (w z)
        ∙ ap (λ (a : Weight). a ⊕ d) (sym (h z ∙ cond-true (eqb z x) _ _ (eq-eqb z x e)))
        ∙ sym (raised-member w' (with_one R x) d z (new_member x z R e))
    | inr o ↦ (let same : w' z ≡ w z = h z ∙ cond-false (eqb z x) _ _ (ne_eqb z x o) in
        ap (λ b. cond b (w z ⊕ d) (w z)) (sym (other_member x z R o))
        ∙ ap (λ (a : Weight). cond (is_member z (with_one R x)) (a ⊕ d) a) (sym same))
  ]
    where
      back : (a : Weight) → a ≡ (a ⊖ d) ⊕ d
      back a = omega (arith, ints, pairs)

-- ---- offers

-- the gains of members alone matter
pub fringe_same : {O F : List ℕ} {E : ℕ → Weight → Type 0} {g g' : ℕ → Weight} → ((x : ℕ) → is_member x F ≡ true → g' x ≡ g x)
    → IsFringe O F E g → IsFringe O F E g'
fringe_same {O} {F} {E} {g} {g'} same f = record {
  within = f.within;
  has = λ x m. subst (E x) (sym (same x m)) (f.has x m);
  most = λ x e xo entry. (let m = f.most x e xo entry in (m.0, rw (same x m.0) m.1));
}

-- a member less
pub gains_left : (g : ℕ → Weight) (F : List ℕ) (d : Weight) (x z : ℕ) → is_member z (without_one F x) ≡ true
    → raised g (without_one F x) d z ≡ raised g F d z
gains_left g F d x z m = raised-member g (without_one F x) d z m
    ∙ sym (raised-member g F d z (and_parts (is_member z F) (not (eqb z x)) (sym (is_member-without_one z x F) ∙ m)).0)

-- offers that are less by d, to gains that are less by d
pub offered_raised : (test : ℕ → Bool) (f f' : ℕ → Weight) (F F' : List ℕ) (g g' : ℕ → Weight) (d : Weight)
    → ((x : ℕ) → test x ≡ true → f' x ≡ f x ⊕ d) → IsOffered test f F g F' g'
    → IsOffered test f' F (raised g F d) F' (raised g' F' d)
offered_raised test f f' F F' g g' d more o = record {
  met = λ x h. (let m = o.met x h in let v = raised-member g' F' d x m.inside in let u = more x h in record {
    inside = m.inside;
    own = rw (v, u) (let own = m.own in up (f x) (g' x) own);
    old = λ k. rw (v, raised-member g F d x k) (up (g x) (g' x) (m.old k));
    from = elim m.from [
      | inl e ↦ inl (v ∙ ap (λ (a : Weight). a ⊕ d) e ∙ sym u)
      | inr k ↦ inr (k.0, v ∙ ap (λ (a : Weight). a ⊕ d) k.1 ∙ sym (raised-member g F d x k.0))
    ];
  });
  kept = λ x h. (let k = o.kept x h in
      (k.0, ap (λ b. cond b (g' x ⊕ d) (g' x)) k.0 ∙ ap (λ (a : Weight). cond (is_member x F) (a ⊕ d) a) k.1));
}
  where
    up : (a b : Weight) → a ≼ b → (a ⊕ d) ≼ (b ⊕ d)
    up a b le = omega (arith, ints, pairs)

-- the gain of an entry from a member to an element outside
pub entry_raised : (w1 w2 : ℕ → Weight) (I R : List ℕ) (x z : ℕ) (d : Weight) → is_member x R ≡ true → is_member z R ≡ false
    → entry_gain (lowered w1 R d) (raised w2 R d) I x z ≡ entry_gain w1 w2 I x z ⊕ d
entry_raised w1 w2 I R x z d xr zo = elim (cases_Bool (is_member x I)) [
  | inl i ↦ cond-true (is_member x I) _ _ i ∙ rw (lowered-member w1 R d x xr, lowered-outside w1 R d z zo) (first (w1 z) (w1 x))
      ∙ ap (λ (a : Weight). a ⊕ d) (sym (cond-true (is_member x I) _ _ i))
  | inr o ↦ cond-false (is_member x I) _ _ o ∙ rw (raised-member w2 R d x xr, raised-outside w2 R d z zo) (second (w2 x) (w2 z))
      ∙ ap (λ (a : Weight). a ⊕ d) (sym (cond-false (is_member x I) _ _ o))
]
  where
    first : (a b : Weight) → a ⊖ (b ⊖ d) ≡ (a ⊖ b) ⊕ d
    first a b = omega (arith, ints, pairs)

    second : (a b : Weight) → (a ⊕ d) ⊖ b ≡ (a ⊖ b) ⊕ d
    second a b = omega (arith, ints, pairs)

-- ---- the heaviest sink of the reached set

-- one more that passes
joined_heaviest : (test test' : ℕ → Bool) (w : ℕ → Weight) (x : ℕ) (heaviest : Option Weight) → test' x ≡ true
    → ((z : ℕ) → test z ≡ true → test' z ≡ true) → ((z : ℕ) → test' z ≡ true → (z ≡ x) ⊎ (test z ≡ true))
    → IsHeaviestWeightOrNone test w heaviest → IsHeaviestWeightOrNone test' w (greater_of heaviest (w x))
joined_heaviest test test' w x None passes kept back h = record {
  element = x;
  passes = passes;
  weighs = refl;
  most = λ z k. elim (back z k) [ inl e ↦ rw e (omega (arith, ints, pairs)) | inr t ↦ absurd (both_ways _ (h z) t) ];
}
joined_heaviest test test' w x (Some t) passes kept back h = elim (cases_Bool (is_below t (w x))) [
  | inl more ↦ subst (λ c. IsHeaviestWeight test' w (cond c (w x) t)) (sym more) (record {
    element = x;
    passes = passes;
    weighs = refl;
    most = λ z k. elim (back z k) [
      | inl e ↦ rw e (omega (arith, ints, pairs))
      | inr b ↦ at_most_trans (w z) t (w x) (h.most z b) (below_at_most t (w x) more)
    ];
  })
  | inr less ↦ subst (λ c. IsHeaviestWeight test' w (cond c (w x) t)) (sym less) (record {
    element = h.element;
    passes = kept h.element h.passes;
    weighs = h.weighs;
    most = λ z k. elim (back z k) [ inl e ↦ rw e (not_below_gives t (w x) less) | inr b ↦ h.most z b ];
  })
]

-- other weights of what does not pass
same_heaviest : (test test' : ℕ → Bool) (w w' : ℕ → Weight) (heaviest : Option Weight) → ((z : ℕ) → test' z ≡ test z)
    → ((z : ℕ) → test z ≡ true → w' z ≡ w z) → IsHeaviestWeightOrNone test w heaviest → IsHeaviestWeightOrNone test' w' heaviest
same_heaviest test test' w w' None tests weights h = λ z. tests z ∙ h z
same_heaviest test test' w w' (Some t) tests weights h = record {
  element = h.element;
  passes = tests h.element ∙ h.passes;
  weighs = weights h.element h.passes ∙ h.weighs;
  most = λ z k. (let p = sym (tests z) ∙ k in rw (weights z p) (h.most z p));
}

pub entered_heaviest : (adds : ℕ → Bool) (R : List ℕ) (w w' : ℕ → Weight) (x : ℕ) (heaviest : Option Weight) → is_member x R ≡ false
    → ((z : ℕ) → z ≢ x → w' z ≡ w z) → IsHeaviestWeightOrNone (λ z. adds z && is_member z R) w heaviest
    → IsHeaviestWeightOrNone (λ z. adds z && is_member z (with_one R x)) w' (cond (adds x) (greater_of heaviest (w' x)) heaviest)
entered_heaviest adds R w w' x heaviest out same h = elim (cases_Bool (adds x)) [
  | inl a ↦ subst (IsHeaviestWeightOrNone (λ z. adds z && is_member z (with_one R x)) w') (sym (cond-true (adds x) _ _ a))
      (joined_heaviest (λ z. adds z && is_member z R) (λ z. adds z && is_member z (with_one R x)) w' x heaviest
      (and_from (adds x) _ a (new_member x x R refl))
      (λ z k. (let p = and_parts (adds z) (is_member z R) k in and_from (adds z) _ p.0 (kept_member x z R p.1)))
      (λ z k. (let p = and_parts (adds z) (is_member z (with_one R x)) k in elim (new_or_kept x z R p.1) [
        | inl e ↦ inl e
        | inr m ↦ inr (and_from (adds z) (is_member z R) p.0 m)
      ]))
      (same_heaviest _ (λ z. adds z && is_member z R) w w' heaviest (λ z. refl) kept h))
  | inr n ↦ subst (IsHeaviestWeightOrNone (λ z. adds z && is_member z (with_one R x)) w') (sym (cond-false (adds x) _ _ n))
      (same_heaviest (λ z. adds z && is_member z R) _ w w' heaviest (λ z. elim (cases_eq z x) [
        | inl e ↦ and_left (adds z) _ (ap adds e ∙ n) ∙ sym (and_left (adds z) _ (ap adds e ∙ n))
        | inr o ↦ ap (λ b. adds z && b) (other_member x z R o)
      ]) kept h)
]
  where
    kept : (z : ℕ) → (adds z && is_member z R) ≡ true → w' z ≡ w z
    kept z k = same z (λ e. both_ways _ out (ap (λ v. is_member v R) (sym e) ∙ (and_parts (adds z) (is_member z R) k).1))

-- ---- the least slack of a sink

abbrev weight_or_none : Option Weight → Weight
weight_or_none None = zero_weight
weight_or_none (Some a) = a

abbrev is_there : Option Weight → Bool
is_there None = false
is_there (Some a) = true

none_is : (d : Weight) → None ≡ Some d → ⊥
none_is d e = false≢true (ap is_there e)

module _ (n : ℕ) (b : Exchanges) (w : ℕ → Weight) (R : List ℕ) (total : Weight) (below : (x : ℕ) → b.adds x ≡ true → x < n) where
  -- it is the excess of the heaviest addable element over the heaviest one in R, less the change so far
  pub least_sink : (t u d : Weight) → IsHeaviestWeight b.adds (raised w R total) t → IsHeaviestWeight (λ x. b.adds x && is_member x R) w u
      → d ≡ (t ⊖ u) ⊖ total → IsLeast (IsAdditionSlack n b (raised w R total) R) d
  least_sink t u d h k e =
      let both = and_parts (b.adds k.element) (is_member k.element R) k.passes in
      record {
        has = record {
          top = h.element;
          element = k.element;
          below = below h.element h.passes;
          heaviest = heaviest_addable_from n b (raised w R total) h.element h.passes
              (λ v l a. subst (λ z. raised w R total v ≼ z) (sym h.weighs) (h.most v a));
          adds = both.0;
          inside = both.1;
          value = (let p = h.weighs in let q = k.weighs in rw (raised-member w R total k.element both.1, p, q) (value t u e));
        };
        least = λ f s.
            let top = heaviest_addable_gives n b (raised w R total) s.top s.heaviest in
            let high = subst (λ z. z ≼ raised w R total s.top) h.weighs (top.most h.element (below h.element h.passes) h.passes) in
            let low = k.most s.element (and_from _ _ s.adds s.inside) in
            let v = s.value ∙ ap (λ (a : Weight). raised w R total s.top ⊖ a) (raised-member w R total s.element s.inside) in
            least (raised w R total s.top) (w s.element) f high low v;
      }
    where
      value : (t u : Weight) → d ≡ (t ⊖ u) ⊖ total → d ≡ t ⊖ (u ⊕ total)
      value t u e = omega (arith, ints, pairs)

      least : (a c f : Weight) → t ≼ a → c ≼ u → f ≡ a ⊖ (c ⊕ total) → d ≼ f
      least a c f high low v = omega (arith, ints, pairs)

  -- where R has none, there is no slack
  pub no_sink : (top inside : Option Weight) → IsHeaviestWeightOrNone b.adds (raised w R total) top
      → IsHeaviestWeightOrNone (λ x. b.adds x && is_member x R) w inside → excess_of top inside ≡ None
      → (d : Weight) → IsAdditionSlack n b (raised w R total) R d → ⊥
  no_sink None inside h k e d s = both_ways _ (h s.element) s.adds
  no_sink (Some t) None h k e d s = both_ways _ (k s.element) (and_from _ _ s.adds s.inside)
  no_sink (Some t) (Some u) h k e d s = absurd (none_is (t ⊖ u) (sym e))

  pub least_sink_at : (top inside : Option Weight) (d : Weight) → IsHeaviestWeightOrNone b.adds (raised w R total) top
      → IsHeaviestWeightOrNone (λ x. b.adds x && is_member x R) w inside → excess_of top inside ≡ Some d
      → IsLeast (IsAdditionSlack n b (raised w R total) R) (d ⊖ total)
  least_sink_at (Some t) (Some u) d h k e = least_sink t u (d ⊖ total) h k (ap (λ o. weight_or_none o ⊖ total) (sym e))
  least_sink_at _ inside d h k e = absurd (none_is d e)

  -- where R has no sink, the heaviest addable weight stays
  top_stays_without : (t d : Weight) → IsHeaviestWeight b.adds (raised w R total) t → ((x : ℕ) → (b.adds x && is_member x R) ≡ false)
      → IsHeaviestWeight b.adds (raised w R d) t
  top_stays_without t d h k = same_heaviest b.adds b.adds (raised w R total) (raised w R d) (Some t) (λ z. refl)
      (λ z a. (let out = outside z a in raised-outside w R d z out ∙ sym (raised-outside w R total z out))) h
    where
      outside : (z : ℕ) → b.adds z ≡ true → is_member z R ≡ false
      outside z a = elim (cases_Bool (is_member z R)) [ inr o ↦ o | inl m ↦ absurd (both_ways _ (k z) (and_from _ _ a m)) ]

  top_stays_with : (t u d : Weight) → IsHeaviestWeight b.adds (raised w R total) t → IsHeaviestWeight (λ x. b.adds x && is_member x R) w u
      → total ≼ d → d ≼ (t ⊖ u) → IsHeaviestWeight b.adds (raised w R d) t
  top_stays_with t u d h k low first = record {
    element = h.element;
    passes = h.passes;
    weighs = elim (cases_Bool (is_member h.element R)) [
      | inr o ↦ raised-outside w R d h.element o ∙ sym (raised-outside w R total h.element o) ∙ h.weighs
      | inl m ↦ raised-member w R d h.element m
          ∙ level (w h.element) (k.most h.element (and_from _ _ h.passes m)) (sym (raised-member w R total h.element m) ∙ h.weighs)
    ];
    most = λ z a. elim (cases_Bool (is_member z R)) [
      | inr o ↦ subst (λ v. v ≼ t) (raised-outside w R total z o ∙ sym (raised-outside w R d z o)) (h.most z a)
      | inl m ↦ rw (raised-member w R d z m) (under (w z) (k.most z (and_from _ _ a m)))
    ];
  }
    where
      under : (a : Weight) → a ≼ u → (a ⊕ d) ≼ t
      under a le = omega (arith, ints, pairs)

      over : (a : Weight) → a ⊕ total ≡ t → t ≼ (a ⊕ d)
      over a e = omega (arith, ints, pairs)

      level : (a : Weight) → a ≼ u → a ⊕ total ≡ t → a ⊕ d ≡ t
      level a le e = at_most_both (a ⊕ d) t (under a le) (over a e)

  -- a change that comes no later than each sink leaves the heaviest addable weight as it is
  pub top_stays : (top inside : Option Weight) (d : Weight) → IsHeaviestWeightOrNone b.adds (raised w R total) top
      → IsHeaviestWeightOrNone (λ x. b.adds x && is_member x R) w inside → total ≼ d
      → ((earlier : Weight) → excess_of top inside ≡ Some earlier → d ≼ earlier) → IsHeaviestWeightOrNone b.adds (raised w R d) top
  top_stays None inside d h k low before = h
  top_stays (Some t) None d h k low before = top_stays_without t d h k
  top_stays (Some t) (Some u) d h k low before = top_stays_with t u d h k low (before (t ⊖ u) refl)

  -- and so does the change by which there is a sink
  pub top_stays_at : (top inside : Option Weight) (d : Weight) → IsHeaviestWeightOrNone b.adds (raised w R total) top
      → IsHeaviestWeightOrNone (λ x. b.adds x && is_member x R) w inside → total ≼ d → excess_of top inside ≡ Some d
      → IsHeaviestWeightOrNone b.adds (raised w R d) top
  top_stays_at top inside d h k low e = top_stays top inside d h k low (λ earlier f.
      let same : d ≡ earlier = ap weight_or_none (sym e ∙ f) in at_most_same d earlier same)

-- ---- bounds

pub stored_first : (a t v : Weight) → v ≡ a ⊖ t → IsWeightWithin (10 ^ 27) v → IsWeightWithin (10 ^ 27) t → IsWeightWithin (10 ^ 28) a
stored_first a t v e within small = omega (arith, ints, pairs)

pub stored_second : (a t v : Weight) → v ≡ a ⊕ t → IsWeightWithin (10 ^ 28) v → IsWeightWithin (10 ^ 27) t → IsWeightWithin (10 ^ 29) a
stored_second a t v e within small = omega (arith, ints, pairs)
