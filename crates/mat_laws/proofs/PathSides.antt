-- One matroid's half of the exchange along a shortest tight path (Frank 1981). The pairs are exchanged in the order of their weights,
-- heavier ones first and equal ones as they stand: then none of the elements x can take the place of a later y. For either it is
-- heavier than that y, which a heaviest set forbids, or as heavy, which would shorten the path. So the last in this order can be
-- exchanged first, as in triangular exchange, and so on. No x can be added to I; so by span, of the larger I + source, only the
-- source can be added to the exchanged set.
use Rattle.mat_laws.proofs.Common.{◌≡◌, ◌≢◌, ℕ, suc, zero, ◌<◌, Bool, true, false, not, ◌||◌, ◌&&◌, eqb, List, [], ◌∷◌, length, ◌⊎◌, inl, inr, refl, sym, ap, ◌∙◌, subst, arith, cases_Bool, cases_order, cases_eq, eqb-true, ne_eqb, or_cases, or_from, false≢true, false_from_ne_true, ints, is_member}
use Rattle.mat_laws.proofs.Common.{IsRising, with_one, without_one, ◌≺◌, ◌≼◌, weight_sum, Weight, set_members, same_members, is_member-with_one, IsRising-with_one, length-with_one, length-exchange_one, weight_sum-with_one, weight_sum-exchange_one, pairs, IsMatroid, IsHeaviest}
use Rattle.mat_laws.proofs.Independent.{rising}
use Rattle.mat_laws.proofs.Maximal.{span}
use Rattle.mat_laws.proofs.LocallyHeaviest.{exchange_gains_nothing, addable_is_lightest}
use Rattle.mat_laws.proofs.HeaviestSteps.{one_more_weighs}
use Rattle.mat_laws.proofs.Triangular.{exchanges_unchanged, still_in, still_out, is_value, is_value-first, not_value, last_exchange}

-- one matroid's view of a path from the source, by functions of the index below m: I is heaviest of its size, the source is a heaviest
-- element that can be added, each x takes the place of its y at equal weight, none at equal weight that of a later y, and no x that
-- can be added is as heavy as the source
pub record IsPathSide (p : List ℕ → Bool) (w : ℕ → Weight) (I : List ℕ) (source m : ℕ) (y x : ℕ → ℕ) : Type 0 where
  pub heaviest : IsHeaviest p w I
  pub source_outside : is_member source I ≡ false
  pub source_adds : p (with_one I source) ≡ true
  pub source_top : (e : ℕ) → is_member e I ≡ false → p (with_one I e) ≡ true → w e ≼ w source
  pub inside : (i : ℕ) → i < m → is_member (y i) I ≡ true
  pub outside : (i : ℕ) → i < m → is_member (x i) I ≡ false
  pub ys_differ : (i j : ℕ) → i < j → j < m → y i ≢ y j
  pub xs_differ : (i j : ℕ) → i < j → j < m → x i ≢ x j
  pub source_differs : (i : ℕ) → i < m → x i ≢ source
  pub own : (i : ℕ) → i < m → p (with_one (without_one I (y i)) (x i)) ≡ true
  pub tight : (i : ℕ) → i < m → w (y i) ≡ w (x i)
  pub no_shortcut : (i j : ℕ) → i < j → j < m → w (x i) ≡ w (y j) → p (with_one (without_one I (y j)) (x i)) ≡ false
  pub no_source : (i : ℕ) → i < m → p (with_one I (x i)) ≡ true → w (x i) ≺ w source

-- ---- an index without one of its places

-- the indices without the place l
abbrev skip : ℕ → ℕ → ℕ
skip zero i = suc i
skip (suc l) zero = zero
skip (suc l) (suc i) = suc (skip l i)

skip-below : (l i m : ℕ) → i < m → skip l i < suc m
skip-below zero i m h = omega arith
skip-below (suc l) zero m h = omega arith
skip-below (suc l) (suc i) zero h = absurd (omega arith)
skip-below (suc l) (suc i) (suc m) h = let a = skip-below l i m (omega arith) in omega arith

skip-misses : (l i : ℕ) → skip l i ≢ l
skip-misses zero i = λ e. absurd (omega arith)
skip-misses (suc l) zero = λ e. absurd (omega arith)
skip-misses (suc l) (suc i) = λ e. skip-misses l i (omega arith)

skip-rises : (l i j : ℕ) → i < j → skip l i < skip l j
skip-rises zero i j h = omega arith
skip-rises (suc l) zero zero h = absurd (omega arith)
skip-rises (suc l) zero (suc j) h = omega arith
skip-rises (suc l) (suc i) zero h = absurd (omega arith)
skip-rises (suc l) (suc i) (suc j) h = let a = skip-rises l i j (omega arith) in omega arith

skip-apart : (l i j : ℕ) → i ≢ j → skip l i ≢ skip l j
skip-apart l i j d e =
    elim (cases_order i j) [
      | inl a ↦ d a
      | inr (inl a) ↦ (let b = skip-rises l i j a in absurd (omega arith))
      | inr (inr a) ↦ (let b = skip-rises l j i a in absurd (omega arith))
    ]

is_value-skip : (l m k : ℕ) (f : ℕ → ℕ) → l < suc m → is_value f (suc m) k ≡ (is_value (λ i. f (skip l i)) m k || eqb k (f l))
is_value-skip zero m k f h = let a = is_value-first f m k in grind arith
is_value-skip (suc l) zero k f h = absurd (omega arith)
is_value-skip (suc l) (suc m) k f h =
    let a = is_value-first f (suc m) k in
    let b = is_value-skip l m k (λ i. f (suc i)) (omega arith) in
    let c = is_value-first (λ i. f (skip (suc l) i)) m k in
    grind arith

is_value-none : (f : ℕ → ℕ) (m k : ℕ) → ((i : ℕ) → i < m → f i ≢ k) → is_value f m k ≡ false
is_value-none f zero k h = refl
is_value-none f (suc m) k h = or_from (is_value f m k) (eqb k (f m)) (is_value-none f m k (λ i l. h i (omega arith))) (ne_eqb k (f m) (λ e. h m (omega arith) (sym e)))

-- ---- the lightest pair, and the last of these

record IsLast (key : ℕ → Weight) (m l : ℕ) : Type 0 where
  below : l < m
  least : (i : ℕ) → i < m → key l ≼ key i
  last : (i : ℕ) → i < m → i ≢ l → key i ≡ key l → i < l

int_order : (a b : Weight) → (a ≺ b) ⊎ (b ≼ a)
int_order a b = grind (arith, ints, pairs)

int_cases : (a b : Weight) → a ≼ b → (a ≡ b) ⊎ (a ≺ b)
int_cases a b h = grind (arith, ints, pairs)

last_of : (key : ℕ → Weight) (m : ℕ) → (l : ℕ) × IsLast key (suc m) l
last_of key zero = (
  0,
  record {
    below = omega arith;
    least = λ i h. (let e : i ≡ 0 = omega arith in subst (λ j. key 0 ≼ key j) (sym e) (omega (arith, ints, pairs)));
    last = λ i h d. absurd (omega arith);
  },
)
last_of key (suc m) =
    let before = last_of key m in
    let l = before.0 in
    let r = before.1 in
    elim (int_order (key l) (key (suc m))) [
      | inl less ↦ (
        l,
        record {
          below = (let b = r.below in omega arith);
          least = λ i h. elim (cases_eq i (suc m)) [ inl e ↦ subst (λ j. key l ≼ key j) (sym e) (omega (arith, ints, pairs)) | inr d ↦ r.least i (omega arith) ];
          last = λ i h d e. elim (cases_eq i (suc m)) [
            | inl q ↦ absurd (let k : key (suc m) ≡ key l = ap key (sym q) ∙ e in omega (arith, ints, pairs))
            | inr q ↦ r.last i (omega arith) d e
          ];
        },
      )
      | inr le ↦ (
        suc m,
        record {
          below = omega arith;
          least = λ i h. elim (cases_eq i (suc m)) [
            | inl e ↦ subst (λ j. key (suc m) ≼ key j) (sym e) (omega (arith, ints, pairs))
            | inr d ↦ (let a = r.least i (omega arith) in omega (arith, ints, pairs))
          ];
          last = λ i h d e. omega arith;
        },
      )
    ]

-- ---- exchanges in the order of keys

-- pairs that may be exchanged, none of them with a later one: heavier keys come first, and equal ones as they stand
record IsOrdered (p : List ℕ → Bool) (I : List ℕ) (m : ℕ) (y x : ℕ → ℕ) (key : ℕ → Weight) : Type 0 where
  inside : (i : ℕ) → i < m → is_member (y i) I ≡ true
  outside : (i : ℕ) → i < m → is_member (x i) I ≡ false
  ys_differ : (i j : ℕ) → i < m → j < m → i ≢ j → eqb (y i) (y j) ≡ false
  xs_differ : (i j : ℕ) → i < m → j < m → i ≢ j → eqb (x i) (x j) ≡ false
  own : (i : ℕ) → i < m → p (with_one (without_one I (y i)) (x i)) ≡ true
  none : (i j : ℕ) → i < m → j < m → i ≢ j → key j ≼ key i → (key i ≡ key j → i < j) → p (with_one (without_one I (y j)) (x i)) ≡ false

-- I without each y and with each x
record IsExchanged (p : List ℕ → Bool) (I : List ℕ) (m : ℕ) (y x : ℕ → ℕ) (set : List ℕ) : Type 0 where
  passes : p set ≡ true
  size : length set ≡ length I
  members : (k : ℕ) → is_member k set ≡ (is_value x m k || (is_member k I && not (is_value y m k)))
  weighs : (w : ℕ → Weight) → ((i : ℕ) → i < m → w (y i) ≡ w (x i)) → weight_sum w set ≡ weight_sum w I

module _ {n : ℕ} {p : List ℕ → Bool} (laws : IsMatroid n p) where
  fewer_ordered : (I : List ℕ) (m l : ℕ) (y x : ℕ → ℕ) (key : ℕ → Weight) → p I ≡ true → IsOrdered p I (suc m) y x key → IsLast key (suc m) l
      → IsOrdered p (with_one (without_one I (y l)) (x l)) m (λ i. y (skip l i)) (λ i. x (skip l i)) (λ i. key (skip l i))
  fewer_ordered I m l y x key ok t w =
      let up : (i : ℕ) → i < m → skip l i < suc m = λ i h. skip-below l i m h in
      let off : (i : ℕ) → i < m → p (with_one (without_one I (y l)) (x (skip l i))) ≡ false = λ i h.
      t.none (skip l i) l (up i h) w.below (skip-misses l i) (w.least (skip l i) (up i h)) (w.last (skip l i) (up i h) (skip-misses l i)) in
      let same : (i j : ℕ) → i < m → j < m → p (with_one (without_one (with_one (without_one I (y l)) (x l)) (y (skip l j))) (x (skip l i))) ≡ p (with_one (without_one I (y (skip l j))) (x (skip l i))) = λ i j hi hj.
      exchanges_unchanged laws I (x l) (y l) (x (skip l i)) (y (skip l j)) ok (t.inside l w.below) (t.inside (skip l j) (up j hj))
      (t.ys_differ (skip l j) l (up j hj) w.below (skip-misses l j)) (t.outside l w.below) (t.outside (skip l i) (up i hi)) (t.own l w.below) (off i hi) in
      record {
        inside = λ i h. still_in I (y (skip l i)) (y l) (x l) (t.inside (skip l i) (up i h)) (t.ys_differ (skip l i) l (up i h) w.below (skip-misses l i));
        outside = λ i h. still_out I (x (skip l i)) (y l) (x l) (t.outside (skip l i) (up i h)) (t.xs_differ (skip l i) l (up i h) w.below (skip-misses l i));
        ys_differ = λ i j hi hj d. t.ys_differ (skip l i) (skip l j) (up i hi) (up j hj) (skip-apart l i j d);
        xs_differ = λ i j hi hj d. t.xs_differ (skip l i) (skip l j) (up i hi) (up j hj) (skip-apart l i j d);
        own = λ i h. same i i h h ∙ t.own (skip l i) (up i h);
        none = λ i j hi hj d le tie. same i j hi hj ∙ t.none (skip l i) (skip l j) (up i hi) (up j hj) (skip-apart l i j d) le (λ e. skip-rises l i j (tie e));
      }

  exchanged_in_order : (m : ℕ) (I : List ℕ) (y x : ℕ → ℕ) (key : ℕ → Weight) → p I ≡ true → IsOrdered p I m y x key
      → (set : List ℕ) × IsExchanged p I m y x set
  exchanged_in_order zero I y x key ok t = (I, record { passes = ok; size = refl; members = λ k. grind arith; weighs = λ w e. refl })
  exchanged_in_order (suc m) I y x key ok t =
      let lightest = last_of key m in
      let l = lightest.0 in
      let last = lightest.1 in
      let J = with_one (without_one I (y l)) (x l) in
      let r = rising laws I ok in
      let y_in = t.inside l last.below in
      let x_out = t.outside l last.below in
      let rest = exchanged_in_order m J (λ i. y (skip l i)) (λ i. x (skip l i)) (λ i. key (skip l i)) (t.own l last.below) (fewer_ordered I m l y x key ok t last) in (
        rest.0,
        record {
          passes = rest.1.passes;
          size = rest.1.size ∙ length-exchange_one I (x l) (y l) r y_in x_out;
          members = λ k.
              let here : is_member k J ≡ (eqb k (x l) || is_member k (without_one I (y l))) = grind (arith, set_members) in
              let mid : is_member k (without_one I (y l)) ≡ (is_member k I && not (eqb k (y l))) = grind (arith, set_members) in
              let apart : eqb k (x l) ≡ true → is_value (λ i. y (skip l i)) m k ≡ false = λ h.
              not_value (λ i. y (skip l i)) m k I (ap (λ z. is_member z I) (eqb-true k (x l) h) ∙ x_out) (λ i b. t.inside (skip l i) (skip-below l i m b)) in
              let all = last_exchange (is_member k rest.0) (is_value (λ i. x (skip l i)) m k) (is_member k J) (is_value (λ i. y (skip l i)) m k) (eqb k (x l)) (is_member k (without_one I (y l))) (is_member k I) (eqb k (y l)) (rest.1.members k) here mid apart in
              let xs = is_value-skip l m k x last.below in
              let ys = is_value-skip l m k y last.below in
              grind arith;
          weighs = λ w e.
              let others = rest.1.weighs w (λ i h. e (skip l i) (skip-below l i m h)) in
              let one = weight_sum-exchange_one w I (x l) (y l) r y_in x_out in
              let here = e l last.below in
              omega (arith, ints, pairs);
        },
      )

-- ---- the step

apart_from : (f : ℕ → ℕ) (m : ℕ) → ((i j : ℕ) → i < j → j < m → f i ≢ f j) → (i j : ℕ) → i < m → j < m → i ≢ j → f i ≢ f j
apart_from f m h i j hi hj d e =
    elim (cases_order i j) [
      | inl a ↦ d a
      | inr (inl a) ↦ h i j a hj e
      | inr (inr a) ↦ h j i a hi (sym e)
    ]

-- x 0, .., x (m - 1)
values_of : (ℕ → ℕ) → ℕ → List ℕ
values_of x zero = []
values_of x (suc m) = x m ∷ values_of x m

is_member-values_of : (x : ℕ → ℕ) (m k : ℕ) → is_member k (values_of x m) ≡ is_value x m k
unfolding values_of
is_member-values_of x zero k = refl
is_member-values_of x (suc m) k = let rest = is_member-values_of x m k in grind arith

none_addable : (p : List ℕ → Bool) (I : List ℕ) (v : ℕ) (x : ℕ → ℕ) (m : ℕ) → ((i : ℕ) → i < m → p (with_one I (x i)) ≡ false)
    → is_value x m v ≡ true → p (with_one I v) ≡ false
none_addable p I v x zero h k = absurd (false≢true k)
none_addable p I v x (suc m) h k =
    elim (or_cases (is_value x m v) (eqb v (x m)) k) [
      | inl a ↦ none_addable p I v x m (λ i l. h i (omega arith)) a
      | inr e ↦ ap (λ q. p (with_one I q)) (eqb-true v (x m) e) ∙ h m (omega arith)
    ]

inside_spanned : (k e : ℕ) (set I xs : List ℕ) (a b : Bool) → is_member k (with_one set e) ≡ true → is_member e I ≡ true
    → is_member k set ≡ (a || (is_member k I && b)) → a ≡ is_member k xs → (is_member k I || is_member k xs) ≡ true
inside_spanned k e set I xs a b m e_in f g = grind (arith, set_members)

absent : (a b c d : Bool) → a ≡ (b || (c && d)) → b ≡ false → c ≡ false → a ≡ false
absent a b c d e g h = grind arith

member_of_larger : (e s : ℕ) (I : List ℕ) → is_member e (with_one I s) ≡ true → eqb e s ≡ false → is_member e I ≡ true
member_of_larger e s I m d = grind (arith, set_members)

module _ {n : ℕ} {p : List ℕ → Bool} (laws : IsMatroid n p) where
  -- no x can be added to I
  path_blocked : (w : ℕ → Weight) (I : List ℕ) (s m : ℕ) (y x : ℕ → ℕ) → IsPathSide p w I s m y x → (i : ℕ) → i < m
      → p (with_one I (x i)) ≡ false
  path_blocked w I s m y x t i h = false_from_ne_true _ (λ ok.
      let less = t.no_source i h ok in
      let light = addable_is_lightest laws w I s (y i) t.heaviest (t.inside i h) t.source_outside t.source_adds in
      let even = t.tight i h in
      let no : ⊥ = absurd (omega (arith, ints, pairs)) in no)

  path_ordered : (w : ℕ → Weight) (I : List ℕ) (s m : ℕ) (y x : ℕ → ℕ) → IsPathSide p w I s m y x → IsOrdered p I m y x (λ i. w (x i))
  path_ordered w I s m y x t = record {
    inside = t.inside;
    outside = t.outside;
    ys_differ = λ i j hi hj d. ne_eqb (y i) (y j) (apart_from (λ k. y k) m t.ys_differ i j hi hj d);
    xs_differ = λ i j hi hj d. ne_eqb (x i) (x j) (apart_from (λ k. x k) m t.xs_differ i j hi hj d);
    own = t.own;
    none = λ i j hi hj d le tie. elim (int_cases (w (x j)) (w (x i)) le) [
      | inl e ↦ t.no_shortcut i j (tie (sym e)) hj (sym e ∙ sym (t.tight j hj))
      | inr less ↦ false_from_ne_true _ (λ ok. (let most = exchange_gains_nothing laws w I (x i) (y j) t.heaviest (t.inside j hj) (t.outside i hi) ok in
          let even = t.tight j hj in
          let no : ⊥ = absurd (omega (arith, ints, pairs)) in no))
    ];
  }

  -- the source can be added to the exchanged set
  source_joins : (w : ℕ → Weight) (I set : List ℕ) (s m : ℕ) (y x : ℕ → ℕ) → IsPathSide p w I s m y x → IsExchanged p I m y x set
      → p (with_one set s) ≡ true
  source_joins w I set s m y x t f =
      let ok = t.heaviest.passes in
      let long = length-with_one I s (rising laws I ok) t.source_outside in
      let a = laws.augmentation set (with_one I s) f.passes t.source_adds (omega (arith, f.size)) in
      let e = a.element in
      elim (cases_Bool (eqb e s)) [
        | inl same ↦ subst (λ v. p (with_one set v) ≡ true) (eqb-true e s same) a.augmented
        | inr other ↦
            let xs = values_of x m in
            let e_in = member_of_larger e s I a.inside other in
            let larger = length-with_one set e (rising laws set f.passes) a.outside in
            let most = span laws I xs ok (λ v k o. none_addable p I v x m (path_blocked w I s m y x t) (sym (is_member-values_of x m v) ∙ k)) (with_one set e) a.augmented
            (λ k h. inside_spanned k e set I xs (is_value x m k) (not (is_value y m k)) h e_in (f.members k) (sym (is_member-values_of x m k))) in
            absurd (omega (arith, f.size))
      ]

  -- the set with the source, without each y and with each x is heaviest of the next size
  pub path_side_step : (w : ℕ → Weight) (I : List ℕ) (s m : ℕ) (y x : ℕ → ℕ) → IsPathSide p w I s m y x → (J : List ℕ) → IsRising J
      → ((k : ℕ) → is_member k J ≡ (eqb k s || (is_value x m k || (is_member k I && not (is_value y m k)))))
      → (length J ≡ suc (length I)) × IsHeaviest p w J
  path_side_step w I s m y x t J rj members =
      let exchanged = exchanged_in_order laws m I y x (λ i. w (x i)) t.heaviest.passes (path_ordered w I s m y x t) in
      let set = exchanged.0 in
      let f = exchanged.1 in
      let rs = rising laws set f.passes in
      let same : with_one set s ≡ J = same_members (with_one set s) J (IsRising-with_one set s rs) rj (λ k. is_member-with_one k s set ∙ ap (λ b. eqb k s || b) (f.members k) ∙ sym (members k)) in
      let out : is_member s set ≡ false = absent (is_member s set) (is_value x m s) (is_member s I) (not (is_value y m s)) (f.members s) (is_value-none x m s t.source_differs) t.source_outside in
      let long = length-with_one set s rs out in
      let total = weight_sum-with_one w set s rs out in
      let even = f.weighs w t.tight in
      let best : IsHeaviest p w (with_one set s) = record {
        passes = source_joins w I set s m y x t f;
        most = λ Y ok size. (let bound = one_more_weighs laws w I Y (w s) t.heaviest t.source_top ok (omega (arith, f.size)) in omega (arith, ints, pairs));
      } in
      subst (λ q. (length q ≡ suc (length I)) × IsHeaviest p w q) same (omega (arith, f.size), best)
