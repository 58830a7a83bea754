-- The arcs between elements are those at one part after the other, which are the columns at the part; an element that can be added to a part
-- takes the place of each member of the part.
use Rattle.mat_union.proofs.Common.{◌≡◌, ℕ, ◌+◌, ◌<◌, ◌≤◌, Bool, true, false, not, ◌||◌, ◌&&◌, eqb, ltb, List, [], length, replicate, inl, inr, refl, sym, ap, ◌∙◌, arith, and_parts, and_right, cases_Bool, eq-eqb, eqb-true, le-ltb, lt-ltb, not-true, or_left, length-replicate, row_at, is_member}
use Rattle.mat_union.proofs.Common.{with_one, without_one, with_one-both, below_member, is_member-with_one, IsRising-with_one, IsRising-without_one, some_below-more, some_below-zero, without_one-IsSubset, or_none, AreColumns, row_of, IsMatroid, exchanges_at, Exchanges, rising, row_of-adds, AreArcs}
use Rattle.mat_union.proofs.Common.{AreFollowed, AreReached, AreRowsUnited, exchanges_with, part_at, test_at, ExchangeArcs}
use Rattle.std.proofs.lemmas.Bool.Decides.{nat_tests}
use Rattle.mat_union.proofs.EmptyParts.{part_at-empty}

module _ {n : ℕ} {p : List ℕ → Bool} (laws : IsMatroid n p) (I : List ℕ) where
  -- an element that can be taken in is below n
  taken_below : (J : List ℕ) (x : ℕ) → p (with_one J x) ≡ true → x < n
  taken_below J x ok = below_member (laws.sets (with_one J x) ok) (is_member-with_one x x J ∙ or_left _ _ (eq-eqb x x refl))

  -- the columns tell which elements trade
  pub column_trades : (columns : List (List ℕ)) → AreColumns n p I columns → (y z : ℕ) → is_member z (row_at columns y) ≡ (exchanges_at p I).trades y z
  column_trades columns c y z = elim (cases_Bool (is_member y I)) [
    | inl m ↦ c.columns_are y z m ∙ same (ltb z n) (is_member z I) (p (with_one (without_one I y) z)) (is_member y I) m
        (λ ok. lt-ltb z n (taken_below (without_one I y) z ok))
    | inr o ↦ c.others_are y z o ∙ none (is_member y I) _ o
  ]
    where
      same : (small inside ok here : Bool) → here ≡ true → (ok ≡ true → small ≡ true) → (small && (not inside && ok)) ≡ (here && (not inside && ok))
      same small inside ok here h l = grind arith

      none : (here rest : Bool) → here ≡ false → false ≡ (here && rest)
      none here rest h = grind arith

  -- an element that can be added
  module _ (x : ℕ) (adds : (row_of p I x).addable ≡ true) where
    pub adds_gives : (is_member x I ≡ false) × (p (with_one I x) ≡ true)
    adds_gives =
        let w = and_parts (not (is_member x I)) (p (with_one I x)) (sym (row_of-adds p I x) ∙ adds) in
        (not-true _ w.0, w.1)

    pub adds_below : x < n
    adds_below = taken_below I x adds_gives.1

  -- takes the place of each member
  pub adds_takes : (columns : List (List ℕ)) → p I ≡ true → AreColumns n p I columns → (x : ℕ) → (row_of p I x).addable ≡ true → (y : ℕ) → is_member y I ≡ true
      → is_member x (row_at columns y) ≡ true
  adds_takes columns ok c x adds y m =
      let w = adds_gives x adds in
      let takes = laws.subsets (with_one (without_one I y) x) (with_one I x) (IsRising-with_one _ x (IsRising-without_one I y (rising laws I ok)))
      (with_one-both (without_one I y) I x (without_one-IsSubset I y)) w.1 in
      c.columns_are y x m ∙ all (ltb x n) (is_member x I) _ (lt-ltb x n (adds_below x adds)) w.0 takes
    where
      all : (small inside passes : Bool) → small ≡ true → inside ≡ false → passes ≡ true → (small && (not inside && passes)) ≡ true
      all small inside passes l o t = grind arith

-- ---- the elements that can be added to a part are put in

module _ (test : ℕ → Bool) (old : List ℕ) where
  pub entered_none : (x : ℕ) → is_member x old ≡ (is_member x old || (ltb x 0 && test x))
  entered_none x = sym (ap (λ b. is_member x old || (b && test x)) (le-ltb x 0 (omega arith)) ∙ or_none (is_member x old))

  pub entered_more : (i : ℕ) (now next : List ℕ) → ((x : ℕ) → is_member x now ≡ (is_member x old || (ltb x i && test x)))
      → ((x : ℕ) → is_member x next ≡ (is_member x now || (eqb x i && test x))) → (x : ℕ) → is_member x next ≡ (is_member x old || (ltb x (i + 1) && test x))
  entered_more i now next before put x = put x ∙ ap (λ b. b || (eqb x i && test x)) (before x) ∙ step x (is_member x old) (test x)
    where
      step : (x : ℕ) (a t : Bool) → ((a || (ltb x i && t)) || (eqb x i && t)) ≡ (a || (ltb x (i + 1) && t))
      step x a t = grind (arith, nat_tests)

  pub entered_end : (i n : ℕ) (now : List ℕ) → n ≤ i → ((x : ℕ) → test x ≡ true → x < n) → ((x : ℕ) → is_member x now ≡ (is_member x old || (ltb x i && test x)))
      → (x : ℕ) → is_member x now ≡ (is_member x old || test x)
  entered_end i n now past small before x = before x ∙ ap (λ b. is_member x old || b) (elim (cases_Bool (test x)) [
    | inl t ↦ ap (λ b. b && test x) (lt-ltb x i (let l = small x t in omega (arith, l, past)))
    | inr o ↦ and_right (ltb x i) (test x) o ∙ sym o
  ])

-- one element
pub entered_one : (now : List ℕ) (x : ℕ) (adds : ℕ → Bool) (next : List ℕ) → adds x ≡ true → next ≡ with_one now x → (y : ℕ)
    → is_member y next ≡ (is_member y now || (eqb y x && adds y))
entered_one now x adds next t is y = ap (is_member y) is ∙ is_member-with_one y x now ∙ turn (eqb y x) (is_member y now) (adds y) (λ e. ap adds (eqb-true y x e) ∙ t)
  where
    turn : (a b c : Bool) → (a ≡ true → c ≡ true) → (a || b) ≡ (b || (a && c))
    turn a b c t = grind arith

pub unentered_one : (now : List ℕ) (x : ℕ) (adds : ℕ → Bool) → adds x ≡ false → (y : ℕ) → is_member y now ≡ (is_member y now || (eqb y x && adds y))
unentered_one now x adds none y = stays (is_member y now) (eqb y x) (adds y) (λ e. ap adds (eqb-true y x e) ∙ none)
  where
    stays : (a b c : Bool) → (b ≡ true → c ≡ false) → a ≡ (a || (b && c))
    stays a b c h = grind arith

pub entered_before : (now : List ℕ) (x : ℕ) (adds : ℕ → Bool) → is_member x now ≡ true → (y : ℕ) → is_member y now ≡ (is_member y now || (eqb y x && adds y))
entered_before now x adds held y = stays (is_member y now) (eqb y x) (adds y) (λ e. ap (λ w. is_member w now) (eqb-true y x e) ∙ held)
  where
    stays : (a b c : Bool) → (b ≡ true → a ≡ true) → a ≡ (a || (b && c))
    stays a b c h = grind arith

-- ---- the parts one after the other

pub arcs_none : (n : ℕ) (arcs : ExchangeArcs) → arcs.into.items ≡ replicate n [] → arcs.entering ≡ [] → (exchanges : ℕ → Exchanges) → AreArcs n 0 exchanges arcs
arcs_none n arcs is none exchanges = record {
  count = ap length is ∙ length-replicate n [];
  into = λ y z. ap (is_member z) (ap (λ c. row_at c y) is ∙ part_at-empty n y) ∙ sym (some_below-zero (λ q. (exchanges q).trades y z));
  enters = λ x. ap (is_member x) none ∙ sym (some_below-zero (λ q. (exchanges q).adds x));
}

pub arcs_more : {n : ℕ} (tests : List (List ℕ → Bool)) (parts : List (List ℕ)) (i : ℕ) (arcs next : ExchangeArcs) (own : List (List ℕ))
    → IsMatroid n (test_at tests i) → AreArcs n i (exchanges_with tests parts) arcs → AreColumns n (test_at tests i) (part_at parts i) own
    → AreRowsUnited own arcs.into.items next.into.items
    → ((x : ℕ) → is_member x next.entering ≡ (is_member x arcs.entering || (row_of (test_at tests i) (part_at parts i) x).addable))
    → AreArcs n (i + 1) (exchanges_with tests parts) next
arcs_more {n} tests parts i arcs next own law a columns u e = record {
  count = u.count ∙ a.count;
  into = λ y z. u.members y z ∙ join _ _ _ _ (a.into y z) (column_trades law (part_at parts i) own columns y z)
      ∙ sym (some_below-more i (λ q. (exchanges_with tests parts q).trades y z));
  enters = λ x. e x ∙ join _ _ _ _ (a.enters x) (row_of-adds (test_at tests i) (part_at parts i) x) ∙ sym (some_below-more i (λ q. (exchanges_with tests parts q).adds x));
}
  where
    join : (a b c d : Bool) → a ≡ c → b ≡ d → (a || b) ≡ (d || c)
    join a b c d f g = grind arith

-- ---- the arcs are followed

pub reached_from : {n m : ℕ} {exchanges : ℕ → Exchanges} (arcs next : ExchangeArcs) (members : List ℕ) → AreArcs n m exchanges arcs
    → AreFollowed members arcs.into.items next.into.items → next.entering ≡ arcs.entering → AreReached n m exchanges members next
reached_from {n} {m} {exchanges} arcs next members a f same = record {
  count = f.count ∙ a.count;
  first = λ y z h. f.held y z (a.into y z ∙ h);
  on = f.on;
  least = λ test step. f.least test (λ u v t h. step u v t (sym (a.into v u) ∙ h));
  enters = λ x. ap (is_member x) same ∙ a.enters x;
}
