-- A set has a least slack, or none. What a test lets through of finitely many pairs has a least value or is empty, by going
-- through the pairs one by one, and the slacks of each of the four kinds are such values.
use Rattle.mat_exchange.proofs.Common.{◌≡◌, ℕ, suc, zero, ◌<◌, Bool, true, not, ◌&&◌, List, ◌⊎◌, inl, inr, refl, sym, ap, subst, arith, cases_Bool, cases_eq, and_parts, and_from, not-true, both_ways, ints, is_member, ◌⊖◌, ◌≼◌, Weight, pairs, by_below, at_most_same, at_most_trans, Exchanges}
use Rattle.mat_exchange.proofs.Common.{is_heaviest_addable, IsSlack, IsLeastSlack}
use Rattle.mat_laws.specs.Slacks.IsSlack.{first_addition, first_exchange, second_exchange, second_addition}

-- ---- the least of finitely many

-- some number with P is least, or none has P
abbrev LeastOrNone : (Weight → Type 0) → Type 0
LeastOrNone P = ((d : Weight) × P d × ((e : Weight) → P e → d ≼ e)) ⊎ ((d : Weight) → P d → ⊥)

-- one number, where a test passes
least_of_one : (t : Bool) (x : Weight) → LeastOrNone (λ d. (t ≡ true) × (d ≡ x))
least_of_one t x = elim (cases_Bool t) [
  | inl a ↦ inl (x, (a, refl), λ e h. at_most_same x e (sym h.1))
  | inr a ↦ inr (λ d h. both_ways t a h.0)
]

-- of either
least_of_either : (P Q : Weight → Type 0) → LeastOrNone P → LeastOrNone Q → LeastOrNone (λ d. P d ⊎ Q d)
least_of_either P Q (inr a) (inr b) = inr (λ d h. elim h [ inl p ↦ a d p | inr q ↦ b d q ])
least_of_either P Q (inr a) (inl b) = inl (b.0, inr b.1, λ e h. elim h [ inl p ↦ absurd (a e p) | inr q ↦ b.2 e q ])
least_of_either P Q (inl a) (inr b) = inl (a.0, inl a.1, λ e h. elim h [ inl p ↦ a.2 e p | inr q ↦ absurd (b e q) ])
least_of_either P Q (inl a) (inl b) = by_below b.0 a.0
    (λ l. inl (b.0, inr b.1, λ e h. elim h [ inl p ↦ at_most_trans b.0 a.0 e (omega (arith, ints, pairs)) (a.2 e p) | inr q ↦ b.2 e q ]))
    (λ l. inl (a.0, inl a.1, λ e h. elim h [ inl p ↦ a.2 e p | inr q ↦ at_most_trans a.0 b.0 e l (b.2 e q) ]))

-- the same numbers
least_of_same : (P Q : Weight → Type 0) → ((d : Weight) → P d → Q d) → ((d : Weight) → Q d → P d) → LeastOrNone P → LeastOrNone Q
least_of_same P Q f g (inr a) = inr (λ d q. a d (g d q))
least_of_same P Q f g (inl a) = inl (a.0, f a.0 a.1, λ e q. a.2 e (g e q))

-- of one for each number below n
least_below : (n : ℕ) (P : ℕ → Weight → Type 0) → ((x : ℕ) → LeastOrNone (P x)) → LeastOrNone (λ d. (x : ℕ) × (x < n) × P x d)
least_below zero P h = inr (λ d w. (let l = w.1 in absurd (omega arith)))
least_below (suc n) P h =
    least_of_same (λ d. ((x : ℕ) × (x < n) × P x d) ⊎ P n d) (λ d. (x : ℕ) × (x < suc n) × P x d)
    (λ d s. elim s [ inl w ↦ (w.0, (let l = w.1 in omega arith), w.2) | inr p ↦ (n, omega arith, p) ])
    (λ d w. elim (cases_eq w.0 n) [
      | inl e ↦ inr (subst (λ x. P x d) e w.2)
      | inr other ↦ inl (w.0, (let l = w.1 in omega arith), w.2)
    ])
    (least_of_either (λ d. (x : ℕ) × (x < n) × P x d) (P n) (least_below n P h) (h n))

-- d is the value of a pair below n that passes
abbrev IsValue : ℕ → (ℕ → ℕ → Bool) → (ℕ → ℕ → Weight) → Weight → Type 0
IsValue n test value d = (x : ℕ) × (x < n) × ((y : ℕ) × (y < n) × ((test x y ≡ true) × (d ≡ value x y)))

least_value : (n : ℕ) (test : ℕ → ℕ → Bool) (value : ℕ → ℕ → Weight) → LeastOrNone (IsValue n test value)
least_value n test value = least_below n (λ x d. (y : ℕ) × (y < n) × ((test x y ≡ true) × (d ≡ value x y))) (λ x.
    least_below n (λ y d. (test x y ≡ true) × (d ≡ value x y)) (λ y. least_of_one (test x y) (value x y)))

-- ---- the four kinds of slack

module _ (n : ℕ) (first second : Exchanges) (w1 w2 : ℕ → Weight) (R : List ℕ) where
  abbrev adds_outside : ℕ → ℕ → Bool
  adds_outside top x = is_heaviest_addable n first w1 top && (first.adds x && not (is_member x R))

  abbrev leaves_in_first : ℕ → ℕ → Bool
  leaves_in_first y x = first.trades y x && (is_member y R && not (is_member x R))

  abbrev leaves_in_second : ℕ → ℕ → Bool
  leaves_in_second x y = second.trades y x && (is_member x R && not (is_member y R))

  abbrev adds_inside : ℕ → ℕ → Bool
  adds_inside top x = is_heaviest_addable n second w2 top && (second.adds x && is_member x R)

  -- a slack of one of the four kinds
  abbrev OfFirst : Weight → Type 0
  OfFirst d = IsValue n adds_outside (λ top x. w1 top ⊖ w1 x) d ⊎ IsValue n leaves_in_first (λ y x. w1 y ⊖ w1 x) d

  abbrev OfSecond : Weight → Type 0
  OfSecond d = IsValue n leaves_in_second (λ x y. w2 y ⊖ w2 x) d ⊎ IsValue n adds_inside (λ top x. w2 top ⊖ w2 x) d

  and_three : (a b c : Bool) → a ≡ true → b ≡ true → c ≡ true → (a && (b && c)) ≡ true
  and_three a b c h k l = and_from a (b && c) h (and_from b c k l)

  three_parts : (a b c : Bool) → (a && (b && c)) ≡ true → (a ≡ true) × (b ≡ true) × (c ≡ true)
  three_parts a b c h = let s = and_parts a (b && c) h in let u = and_parts b c s.1 in (s.0, u.0, u.1)

  slack_gives : (d : Weight) → IsSlack n first second w1 w2 R d → OfFirst d ⊎ OfSecond d
  slack_gives d (first_addition top x lt lx t a out e) = inl (inl (top, lt, (x, lx, (and_three _ _ _ t a (ap not out), e))))
  slack_gives d (first_exchange y x ly lx t m out e) = inl (inr (y, ly, (x, lx, (and_three _ _ _ t m (ap not out), e))))
  slack_gives d (second_exchange x y lx ly t m out e) = inr (inl (x, lx, (y, ly, (and_three _ _ _ t m (ap not out), e))))
  slack_gives d (second_addition top x lt lx t a m e) = inr (inr (top, lt, (x, lx, (and_three _ _ _ t a m, e))))

  slack_of_first : (d : Weight) → OfFirst d → IsSlack n first second w1 w2 R d
  slack_of_first d (inl q) =
      let r = q.2 in
      let s = three_parts (is_heaviest_addable n first w1 q.0) (first.adds r.0) (not (is_member r.0 R)) r.2.0 in
      first_addition q.0 r.0 q.1 r.1 s.0 s.1 (not-true _ s.2) r.2.1
  slack_of_first d (inr q) =
      let r = q.2 in
      let s = three_parts (first.trades q.0 r.0) (is_member q.0 R) (not (is_member r.0 R)) r.2.0 in
      first_exchange q.0 r.0 q.1 r.1 s.0 s.1 (not-true _ s.2) r.2.1

  slack_of_second : (d : Weight) → OfSecond d → IsSlack n first second w1 w2 R d
  slack_of_second d (inl q) =
      let r = q.2 in
      let s = three_parts (second.trades r.0 q.0) (is_member q.0 R) (not (is_member r.0 R)) r.2.0 in
      second_exchange q.0 r.0 q.1 r.1 s.0 s.1 (not-true _ s.2) r.2.1
  slack_of_second d (inr q) =
      let r = q.2 in
      let s = three_parts (is_heaviest_addable n second w2 q.0) (second.adds r.0) (is_member r.0 R) r.2.0 in
      second_addition q.0 r.0 q.1 r.1 s.0 s.1 s.2 r.2.1

  least_of_first : LeastOrNone OfFirst
  least_of_first = least_of_either _ _ (least_value n adds_outside (λ top x. w1 top ⊖ w1 x)) (least_value n leaves_in_first (λ y x. w1 y ⊖ w1 x))

  least_of_second : LeastOrNone OfSecond
  least_of_second = least_of_either _ _ (least_value n leaves_in_second (λ x y. w2 y ⊖ w2 x)) (least_value n adds_inside (λ top x. w2 top ⊖ w2 x))

  -- R has a least slack, or no slack
  pub least_slack_or_none : ((d : Weight) × IsLeastSlack n first second w1 w2 R d) ⊎ ((d : Weight) → IsSlack n first second w1 w2 R d → ⊥)
  least_slack_or_none =
      elim (least_of_same (λ d. OfFirst d ⊎ OfSecond d) (IsSlack n first second w1 w2 R)
      (λ d h. elim h [ inl k ↦ slack_of_first d k | inr k ↦ slack_of_second d k ]) (λ d s. slack_gives d s)
      (least_of_either OfFirst OfSecond least_of_first least_of_second)) [
        | inl l ↦ inl (l.0, record { slack = l.1; least = l.2 })
        | inr none ↦ inr none
      ]
