-- The least slack of each kind comes from the greatest weight of an element, and the least of several numbers from the lesser of two.
use Rattle.mat_exchange.proofs.Common.{◌≡◌, ◌∙◌, ℕ, ◌+◌, ◌<◌, true, false, not, ◌&&◌, ltb, cond, List, length, Option, Some, None, ◌⊎◌, inl, inr, refl, sym, ap, subst, arith, and_from, and_parts, cases_Bool, cases_eq, lt-ltb, ltb-true, not-true, ints, all_below, is_member, minus, AllBelow}
use Rattle.mat_exchange.proofs.Common.{AllBelow-member, is_member-all_below, is_member-minus, ◌⊖◌, ◌≼◌, is_below, Weight, pairs, at_most_trans, below_at_most, not_below_gives, Exchange, Exchanges, exchanges_in, IsSlack, IsLeastSlackOrNone, IsHeaviestOf, IsHeaviestWeight, IsAdditionSlack}
use Rattle.mat_exchange.proofs.Common.{IsExchangeSlackAt, IsExchangeSlack, IsLeast, IsLeastOrNone, lesser_of, heaviest_addable_gives, heaviest_addable_from}
use Rattle.mat_laws.specs.Slacks.IsSlack.{first_addition, first_exchange, second_exchange, second_addition}
use Rattle.mat_exchange.proofs.HeaviestAddable.{addable_below}

-- ---- the least of numbers

-- of either
pub least_of_either : (P Q : Weight → Type 0) (a b : Option Weight) → IsLeastOrNone P a → IsLeastOrNone Q b
    → IsLeastOrNone (λ d. P d ⊎ Q d) (lesser_of a b)
least_of_either P Q None None p q = λ d h. elim h [ inl k ↦ p d k | inr k ↦ q d k ]
least_of_either P Q None (Some y) p q = record {
  has = inr q.has;
  least = λ e h. elim h [ inl k ↦ absurd (p e k) | inr k ↦ q.least e k ];
}
least_of_either P Q (Some x) None p q = record {
  has = inl p.has;
  least = λ e h. elim h [ inl k ↦ p.least e k | inr k ↦ absurd (q e k) ];
}
least_of_either P Q (Some x) (Some y) p q = elim (cases_Bool (is_below y x)) [
  | inl l ↦ subst (λ c. IsLeast (λ d. P d ⊎ Q d) (cond c y x)) (sym l) (record {
    has = inr q.has;
    least = λ e h. elim h [ inl k ↦ at_most_trans y x e (below_at_most y x l) (p.least e k) | inr k ↦ q.least e k ];
  })
  | inr l ↦ subst (λ c. IsLeast (λ d. P d ⊎ Q d) (cond c y x)) (sym l) (record {
    has = inl p.has;
    least = λ e h. elim h [ inl k ↦ p.least e k | inr k ↦ at_most_trans x y e (not_below_gives y x l) (q.least e k) ];
  })
]

-- the same numbers
pub least_of_same : (P Q : Weight → Type 0) (a : Option Weight) → ((d : Weight) → P d → Q d) → ((d : Weight) → Q d → P d)
    → IsLeastOrNone P a → IsLeastOrNone Q a
least_of_same P Q None f g p = λ d q. p d (g d q)
least_of_same P Q (Some x) f g p = record { has = f x p.has; least = λ e q. p.least e (g e q) }

-- ---- additions

difference_mono : (a b c d : Weight) → a ≼ b → c ≼ d → (a ⊖ d) ≼ (b ⊖ c)
difference_mono a b c d h k = omega (arith, ints, pairs)

module _ (n : ℕ) (rows : List Exchange) (w : ℕ → Weight) (addable into : List ℕ) (count : length rows ≡ n)
    (same : (x : ℕ) → is_member x addable ≡ (exchanges_in rows).adds x) where
  -- the heaviest addable element against the heaviest one in the set
  pub least_addition : (t : Weight) (x : ℕ) → IsHeaviestWeight (exchanges_in rows).adds w t
      → IsHeaviestOf (λ z. is_member z addable && is_member z into) w x
      → IsLeast (IsAdditionSlack n (exchanges_in rows) w into) (t ⊖ w x)
  least_addition t x h k =
      let below : h.element < n = subst (λ m. h.element < m) count (addable_below rows h.element h.passes) in
      let both = and_parts (is_member x addable) (is_member x into) k.passes in
      record {
        has = record {
          top = h.element;
          element = x;
          below = below;
          heaviest = heaviest_addable_from n (exchanges_in rows) w h.element h.passes (λ e l a. subst (λ z. w e ≼ z) (sym h.weighs) (h.most e a));
          adds = sym (same x) ∙ both.0;
          inside = both.1;
          value = ap (λ z. z ⊖ w x) (sym h.weighs);
        };
        least = λ e s.
            let top = heaviest_addable_gives n (exchanges_in rows) w s.top s.heaviest in
            subst (λ z. (t ⊖ w x) ≼ z) (sym s.value) (difference_mono t (w s.top) (w s.element) (w x)
            (subst (λ z. z ≼ w s.top) h.weighs (top.most h.element below h.passes))
            (k.most s.element (and_from _ _ (same s.element ∙ s.adds) s.inside)));
      }

-- ---- exchanges

module _ (exchanges : Exchanges) (w : ℕ → Weight) (from into : List ℕ) where
  module _ (y : ℕ) (column : List ℕ) (same : (x : ℕ) → is_member x column ≡ exchanges.trades y x) where
    pub least_exchange_at : (x : ℕ) → is_member y from ≡ true → IsHeaviestOf (λ z. is_member z column && is_member z into) w x
        → IsLeast (IsExchangeSlackAt y exchanges w from into) (w y ⊖ w x)
    least_exchange_at x leaves k =
        let both = and_parts (is_member x column) (is_member x into) k.passes in
        record {
          has = record {
            element = x;
            trades = sym (same x) ∙ both.0;
            leaves = leaves;
            inside = both.1;
            value = refl;
          };
          least = λ e s. subst (λ z. (w y ⊖ w x) ≼ z) (sym s.value) (difference_mono (w y) (w y) (w s.element) (w x) (omega (arith, ints, pairs))
              (k.most s.element (and_from _ _ (same s.element ∙ s.trades) s.inside)));
        }

  pub least_exchange_next : (y : ℕ) (a b : Option Weight) → IsLeastOrNone (IsExchangeSlack y exchanges w from into) a
      → IsLeastOrNone (IsExchangeSlackAt y exchanges w from into) b
      → IsLeastOrNone (IsExchangeSlack (y + 1) exchanges w from into) (lesser_of a b)
  least_exchange_next y a b h k =
      least_of_same (λ d. IsExchangeSlack y exchanges w from into d ⊎ IsExchangeSlackAt y exchanges w from into d)
      (IsExchangeSlack (y + 1) exchanges w from into) (lesser_of a b)
      (λ d s. elim s [
        | inl s ↦ record { replaced = s.replaced; below = (let l = s.below in omega arith); slack = s.slack }
        | inr s ↦ record { replaced = y; below = omega arith; slack = s }
      ])
      (λ d s. elim (cases_eq s.replaced y) [
        | inl e ↦ inr (subst (λ z. IsExchangeSlackAt z exchanges w from into d) e s.slack)
        | inr o ↦ inl (record { replaced = s.replaced; below = (let l = s.below in omega arith); slack = s.slack })
      ])
      (least_of_either (IsExchangeSlack y exchanges w from into) (IsExchangeSlackAt y exchanges w from into) a b h k)

-- ---- the four kinds together

module _ (n : ℕ) (first second : Exchanges) (w1 w2 : ℕ → Weight) (R reached others : List ℕ) (below : AllBelow n R)
    (inside : (x : ℕ) → is_member x reached ≡ is_member x R)
    (outside : (x : ℕ) → is_member x others ≡ (ltb x n && not (is_member x R))) where
  -- a slack of the first matroid, or of the second
  abbrev OfFirst : Weight → Type 0
  OfFirst d = IsAdditionSlack n first w1 others d ⊎ IsExchangeSlack n first w1 reached others d

  abbrev OfSecond : Weight → Type 0
  OfSecond d = IsExchangeSlack n second w2 others reached d ⊎ IsAdditionSlack n second w2 reached d

  member_below : (x : ℕ) → is_member x reached ≡ true → x < n
  member_below x m = AllBelow-member n R x below (sym (inside x) ∙ m)

  is_other : (x : ℕ) → x < n → is_member x R ≡ false → is_member x others ≡ true
  is_other x l m = outside x ∙ and_from (ltb x n) (not (is_member x R)) (lt-ltb x n l) (ap not m)

  other_gives : (x : ℕ) → is_member x others ≡ true → (x < n) × (is_member x R ≡ false)
  other_gives x m =
      let s = and_parts (ltb x n) (not (is_member x R)) (sym (outside x) ∙ m) in
      (ltb-true x n s.0, not-true _ s.1)

  slack_of_first : (d : Weight) → OfFirst d → IsSlack n first second w1 w2 R d
  slack_of_first d (inl s) =
      let o = other_gives s.element s.inside in
      first_addition s.top s.element s.below o.0 s.heaviest s.adds o.1 s.value
  slack_of_first d (inr s) =
      let o = other_gives s.slack.element s.slack.inside in
      first_exchange s.replaced s.slack.element s.below o.0 s.slack.trades (sym (inside s.replaced) ∙ s.slack.leaves) o.1 s.slack.value

  slack_of_second : (d : Weight) → OfSecond d → IsSlack n first second w1 w2 R d
  slack_of_second d (inl s) =
      let o = other_gives s.replaced s.slack.leaves in
      second_exchange s.slack.element s.replaced (member_below s.slack.element s.slack.inside) s.below s.slack.trades
      (sym (inside s.slack.element) ∙ s.slack.inside) o.1 s.slack.value
  slack_of_second d (inr s) =
      second_addition s.top s.element s.below (member_below s.element s.inside) s.heaviest s.adds (sym (inside s.element) ∙ s.inside) s.value

  slack_gives : (d : Weight) → IsSlack n first second w1 w2 R d → OfFirst d ⊎ OfSecond d
  slack_gives d (first_addition top x lt lx t a out e) = inl (inl (record {
    top = top;
    element = x;
    below = lt;
    heaviest = t;
    adds = a;
    inside = is_other x lx out;
    value = e;
  }))
  slack_gives d (first_exchange y x ly lx t m out e) = inl (inr (record {
    replaced = y;
    below = ly;
    slack = record { element = x; trades = t; leaves = inside y ∙ m; inside = is_other x lx out; value = e };
  }))
  slack_gives d (second_exchange x y lx ly t m out e) = inr (inl (record {
    replaced = y;
    below = ly;
    slack = record { element = x; trades = t; leaves = is_other y ly out; inside = inside x ∙ m; value = e };
  }))
  slack_gives d (second_addition top x lt lx t a m e) = inr (inr (record {
    top = top;
    element = x;
    below = lt;
    heaviest = t;
    adds = a;
    inside = inside x ∙ m;
    value = e;
  }))

  least_slack_from : (a : Option Weight) → IsLeastOrNone (IsSlack n first second w1 w2 R) a → IsLeastSlackOrNone n first second w1 w2 R a
  least_slack_from None h = h
  least_slack_from (Some d) h = record { slack = h.has; least = h.least }

  -- the least of the four
  pub least_of_four : (a b c d : Option Weight) → IsLeastOrNone (IsAdditionSlack n first w1 others) a
      → IsLeastOrNone (IsExchangeSlack n first w1 reached others) b → IsLeastOrNone (IsExchangeSlack n second w2 others reached) c
      → IsLeastOrNone (IsAdditionSlack n second w2 reached) d
      → IsLeastSlackOrNone n first second w1 w2 R (lesser_of (lesser_of a b) (lesser_of c d))
  least_of_four a b c d ha hb hc hd =
      least_slack_from (lesser_of (lesser_of a b) (lesser_of c d))
      (least_of_same (λ d. OfFirst d ⊎ OfSecond d) (IsSlack n first second w1 w2 R) (lesser_of (lesser_of a b) (lesser_of c d))
      (λ d s. elim s [ inl k ↦ slack_of_first d k | inr k ↦ slack_of_second d k ]) slack_gives
      (least_of_either OfFirst OfSecond (lesser_of a b) (lesser_of c d)
      (least_of_either (IsAdditionSlack n first w1 others) (IsExchangeSlack n first w1 reached others) a b ha hb)
      (least_of_either (IsExchangeSlack n second w2 others reached) (IsAdditionSlack n second w2 reached) c d hc hd)))

-- ---- the bits of a set and of the rest

pub reached_below : (n m : ℕ) (R reached : List ℕ) → AllBelow n R → m ≡ n → ((x : ℕ) → is_member x reached ≡ is_member x R)
    → (x : ℕ) → is_member x reached ≡ true → x < m
reached_below n m R reached below e inside x h = (let l = AllBelow-member n R x below (sym (inside x) ∙ h) in omega arith)

pub rest_members : (n : ℕ) (set rest : List ℕ) → rest ≡ minus (all_below n) set → (x : ℕ) → is_member x rest ≡ (ltb x n && not (is_member x set))
rest_members n set rest is x =
    ap (is_member x) is ∙ is_member-minus x (all_below n) set ∙ ap (λ b. b && not (is_member x set)) (is_member-all_below x n)
