-- Where a set R has no slack, nothing leads out of it: no addition outside R in the first matroid, none inside R in the second, and no
-- exchange across. For where something can be added there is a heaviest such element, and with it a slack. So R is a cut.
use Rattle.mat_exchange.proofs.Common.{◌≡◌, ℕ, suc, zero, ◌<◌, Bool, true, false, List, length, ◌⊎◌, inl, inr, refl, sym, ap, ◌∙◌, subst, arith, cases_Bool, cases_eq, ltb-true, both_ways, false_from_ne_true, ints, is_member, IsSet, with_one, without_one, all_below, below_member, IsRising-all_below}
use Rattle.mat_exchange.proofs.Common.{IsSubset-all_below, is_member-all_below, ◌⊖◌, ◌≼◌, Weight, pairs, by_below, IsMatroid, Exchanges, exchanges_at, is_heaviest_addable, IsSlack, addable_from, exchangeable_from, heaviest_addable_from}
use Rattle.mat_laws.specs.Slacks.IsSlack.{first_addition, first_exchange, second_exchange, second_addition}
use Rattle.mat_laws.specs.Ladders.{IsCut}
use Rattle.mat_laws.proofs.Cuts.{cut_of_stuck}

-- ---- a heaviest addable element

-- the heaviest of the addable elements below m
record IsHeaviestBelow (m : ℕ) (exchanges : Exchanges) (w : ℕ → Weight) (top : ℕ) : Type 0 where
  below : top < m
  adds : exchanges.adds top ≡ true
  most : (e : ℕ) → e < m → exchanges.adds e ≡ true → w e ≼ w top

-- one number more, which can't be added
not_the_next : (m : ℕ) (exchanges : Exchanges) (w : ℕ → Weight) (top : ℕ) → exchanges.adds m ≡ false → IsHeaviestBelow m exchanges w top
    → IsHeaviestBelow (suc m) exchanges w top
not_the_next m exchanges w top out h = record {
  below = (let l = h.below in omega arith);
  adds = h.adds;
  most = λ e l a. elim (cases_eq e m) [
    | inl same ↦ absurd (both_ways _ out (sym (ap exchanges.adds same) ∙ a))
    | inr other ↦ h.most e (omega arith) a
  ];
}

-- one number more, which weighs no more
still_heaviest : (m : ℕ) (exchanges : Exchanges) (w : ℕ → Weight) (top : ℕ) → w m ≼ w top → IsHeaviestBelow m exchanges w top
    → IsHeaviestBelow (suc m) exchanges w top
still_heaviest m exchanges w top le h = record {
  below = (let l = h.below in omega arith);
  adds = h.adds;
  most = λ e l a. elim (cases_eq e m) [
    | inl same ↦ subst (λ z. w z ≼ w top) (sym same) le
    | inr other ↦ h.most e (omega arith) a
  ];
}

-- one number more, which can be added, and no addable element before it weighs more
next_heaviest : (m : ℕ) (exchanges : Exchanges) (w : ℕ → Weight) → exchanges.adds m ≡ true
    → ((e : ℕ) → e < m → exchanges.adds e ≡ true → w e ≼ w m) → IsHeaviestBelow (suc m) exchanges w m
next_heaviest m exchanges w a before = record {
  below = omega arith;
  adds = a;
  most = λ e l k. elim (cases_eq e m) [
    | inl same ↦ subst (λ z. w z ≼ w m) (sym same) (omega (arith, ints, pairs))
    | inr other ↦ before e (omega arith) k
  ];
}

heaviest_below : (m : ℕ) (exchanges : Exchanges) (w : ℕ → Weight)
    → ((top : ℕ) × IsHeaviestBelow m exchanges w top) ⊎ ((e : ℕ) → e < m → exchanges.adds e ≡ false)
heaviest_below zero exchanges w = inr (λ e l. absurd (omega arith))
heaviest_below (suc m) exchanges w = elim (cases_Bool (exchanges.adds m)) [
  | inr out ↦ elim (heaviest_below m exchanges w) [
    | inl t ↦ inl (t.0, not_the_next m exchanges w t.0 out t.1)
    | inr none ↦ inr (λ e l. elim (cases_eq e m) [ inl same ↦ ap exchanges.adds same ∙ out | inr other ↦ none e (omega arith) ])
  ]
  | inl a ↦ elim (heaviest_below m exchanges w) [
    | inr none ↦ inl (m, next_heaviest m exchanges w a (λ e l k. absurd (both_ways _ (none e l) k)))
    | inl t ↦ by_below (w t.0) (w m)
        (λ more. inl (m, next_heaviest m exchanges w a (λ e l k. (let most = t.1.most e l k in omega (arith, ints, pairs)))))
        (λ le. inl (t.0, still_heaviest m exchanges w t.0 le t.1))
  ]
]

-- where something can be added, there is a heaviest addable element
pub some_heaviest_addable : (n : ℕ) (exchanges : Exchanges) (w : ℕ → Weight) (x : ℕ) → x < n → exchanges.adds x ≡ true
    → (top : ℕ) × (top < n) × (is_heaviest_addable n exchanges w top ≡ true)
some_heaviest_addable n exchanges w x l a = elim (heaviest_below n exchanges w) [
  | inl t ↦ (t.0, t.1.below, heaviest_addable_from n exchanges w t.0 t.1.adds t.1.most)
  | inr none ↦ absurd (both_ways _ (none x l) a)
]

-- ---- the cut

module _ {n : ℕ} {p q : List ℕ → Bool} (lp : IsMatroid n p) (lq : IsMatroid n q) (w1 w2 : ℕ → Weight) (I R : List ℕ)
    (p_passes : p I ≡ true) (q_passes : q I ≡ true) (set : IsSet n R)
    (none : (d : Weight) → IsSlack n (exchanges_at p I) (exchanges_at q I) w1 w2 R d → ⊥) where
  no_first_addition : (x : ℕ) → x < n → is_member x I ≡ false → is_member x R ≡ false → p (with_one I x) ≡ false
  no_first_addition x l o out = false_from_ne_true _ (λ ok.
      let a = addable_from p I x o ok in
      let t = some_heaviest_addable n (exchanges_at p I) w1 x l a in
      none (w1 t.0 ⊖ w1 x) (first_addition t.0 x t.1 l t.2 a out refl))

  no_second_addition : (x : ℕ) → is_member x I ≡ false → is_member x R ≡ true → q (with_one I x) ≡ false
  no_second_addition x o m = false_from_ne_true _ (λ ok.
      let a = addable_from q I x o ok in
      let t = some_heaviest_addable n (exchanges_at q I) w2 x (below_member set m) a in
      none (w2 t.0 ⊖ w2 x) (second_addition t.0 x t.1 (below_member set m) t.2 a m refl))

  no_first_exchange : (x y : ℕ) → x < n → is_member x I ≡ false → is_member x R ≡ false → is_member y I ≡ true
      → is_member y R ≡ true → p (with_one (without_one I y) x) ≡ false
  no_first_exchange x y l o out i m =
      false_from_ne_true _ (λ ok. none (w1 y ⊖ w1 x) (first_exchange y x (below_member set m) l (exchangeable_from p I y x i o ok) m out refl))

  no_second_exchange : (x y : ℕ) → is_member x I ≡ false → is_member x R ≡ true → is_member y I ≡ true → is_member y R ≡ false
      → q (with_one (without_one I y) x) ≡ false
  no_second_exchange x y o m i out = false_from_ne_true _ (λ ok.
      let l = below_member (lp.sets I p_passes) i in
      none (w2 y ⊖ w2 x) (second_exchange x y (below_member set m) l (exchangeable_from q I y x i o ok) m out refl))

  -- a set without a slack is a cut of the size of I
  pub cut_without_slack : IsCut n p q (length I) R
  cut_without_slack =
      let within : (x : ℕ) → is_member x (all_below n) ≡ true → x < n = λ x m. ltb-true x n (sym (is_member-all_below x n) ∙ m) in
      record {
        set = set;
        ranks = cut_of_stuck lp lq (all_below n) I R p_passes q_passes (IsRising-all_below n) set.rising
            (IsSubset-all_below n I (lp.sets I p_passes).below)
            (λ x m o out. no_first_addition x (within x m) o out)
            no_second_addition
            (λ x y m o out i r. no_first_exchange x y (within x m) o out i r)
            no_second_exchange;
      }
