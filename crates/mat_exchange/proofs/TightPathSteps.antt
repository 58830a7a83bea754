-- The exchange along a shortest tight path (Frank 1981). The path starts outside I and goes outside and inside by turns, so it is
-- x 0, y 0, x 1, .., y (m - 1), x m. In the second matroid x m is added and each x i takes the place of y i, in the order of the
-- path; in the first x 0 is added and x (i + 1) takes the place of y i, in the opposite order. As the path has no chord, both
-- matroids' halves of the exchange apply, to one and the same set.
use Rattle.mat_exchange.proofs.Common.{◌≡◌, ◌≢◌, ℕ, suc, zero, ◌+◌, ◌-◌, ◌<◌, Bool, true, false, not, ◌||◌, ◌&&◌, eqb, List, length, get_or, ◌⊎◌, inl, inr, refl, sym, ap, ◌∙◌, subst, arith, eq-eqb, false_from_ne_true, both_ways, is_member, with_one, without_one, minus, IsWalk, IsChordless}
use Rattle.mat_exchange.proofs.Common.{set_members, IsRising-minus, IsRising-union, below_member, shortest_walk_is_chordless, Weight, IsMatroid, IsHeaviest, exchanges_at, is_heaviest_addable, is_tight, IsTightPath, exchanged_along, rising, IsExchangeable, IsHeaviestAddable, addable_gives}
use Rattle.mat_exchange.proofs.Common.{addable_from, heaviest_addable_gives, lighter_addable, tight_first, tight_second, tight_from_outside, tight_from_inside}
use Rattle.mat_laws.proofs.Triangular.{is_value, is_value-first, is_value-list, not_value}
use Rattle.mat_laws.proofs.PathSides.{IsPathSide, path_side_step}

-- ---- even and odd places

abbrev double : ℕ → ℕ
double zero = zero
double (suc m) = suc (suc (double m))

double-is : (m : ℕ) → double m ≡ m + m
double-is zero = refl
double-is (suc m) = let ih = double-is m in omega arith

double-less : (i j : ℕ) → i < j → suc (double i) < double j
double-less i j h = let a = double-is i in let b = double-is j in omega arith

even_or_odd : (a : ℕ) → (m : ℕ) × ((a ≡ double m) ⊎ (a ≡ suc (double m)))
even_or_odd zero = (0, inl refl)
even_or_odd (suc a) = let q = even_or_odd a in elim q.1 [ inl e ↦ (q.0, inr (ap suc e)) | inr e ↦ (suc q.0, inl (ap suc e)) ]

-- ---- values of a function

is_value-same : (f g : ℕ → ℕ) (m k : ℕ) → ((i : ℕ) → i < m → f i ≡ g i) → is_value f m k ≡ is_value g m k
is_value-same f g zero k h = refl
is_value-same f g (suc m) k h =
    let rest = is_value-same f g m k (λ i l. h i (omega arith)) in
    let last = ap (eqb k) (h m (omega arith)) in
    grind arith

is_value-reversed : (f : ℕ → ℕ) (m k : ℕ) → is_value (λ i. f (m - suc i)) m k ≡ is_value f m k
is_value-reversed f zero k = refl
is_value-reversed f (suc m) k =
    let a = is_value-first (λ i. f (suc m - suc i)) m k in
    let b = is_value-same (λ i. f (suc m - suc (suc i))) (λ i. f (m - suc i)) m k (λ i l. ap f (omega arith)) in
    let c = is_value-reversed f m k in
    let d : eqb k (f (suc m - 1)) ≡ eqb k (f m) = ap (λ i. eqb k (f i)) (omega arith) in
    grind arith

is_value-double : (f : ℕ → ℕ) (m k : ℕ)
    → is_value f (suc (double m)) k ≡ (is_value (λ i. f (double i)) (suc m) k || is_value (λ i. f (suc (double i))) m k)
is_value-double f zero k = grind arith
is_value-double f (suc m) k = let ih = is_value-double f m k in grind arith

-- a member is none of the values, which are all outside
member_not_value : (f : ℕ → ℕ) (m k : ℕ) (I : List ℕ) → is_member k I ≡ true → ((i : ℕ) → i < m → is_member (f i) I ≡ false)
    → is_value f m k ≡ false
member_not_value f zero k I h all = refl
member_not_value f (suc m) k I h all =
    let rest = member_not_value f m k I h (λ i l. all i (omega arith)) in
    let last = all m (omega arith) in
    grind arith

-- ---- the path by its even and its odd places

-- the members of the exchanged set
pub is_member-exchanged_along : (k : ℕ) (I path : List ℕ)
    → is_member k (exchanged_along I path) ≡ ((is_member k path && not (is_member k I)) || (is_member k I && not (is_member k path)))
is_member-exchanged_along k I path = grind (arith, set_members)

exchanged_by_values : (after on_path inside xs ys : Bool) → after ≡ ((on_path && not inside) || (inside && not on_path)) → on_path ≡ (xs || ys)
    → (inside ≡ true → xs ≡ false) → (inside ≡ false → ys ≡ false) → after ≡ (xs || (inside && not ys))
exchanged_by_values after on_path inside xs ys a b c d = grind arith

-- the path x 0, y 0, x 1, .., y (m - 1), x m, and the exchanges along it
record IsAlternating (n : ℕ) (p q : List ℕ → Bool) (w1 w2 : ℕ → Weight) (I path : List ℕ) (m : ℕ) (y x : ℕ → ℕ) : Type 0 where
  inside : (i : ℕ) → i < m → is_member (y i) I ≡ true
  outside : (i : ℕ) → i < suc m → is_member (x i) I ≡ false
  ys_differ : (i j : ℕ) → i < j → j < m → y i ≢ y j
  xs_differ : (i j : ℕ) → i < j → j < suc m → x i ≢ x j
  first_own : (i : ℕ) → i < m → IsExchangeable p I (y i) (x (suc i)) × (w1 (y i) ≡ w1 (x (suc i)))
  second_own : (i : ℕ) → i < m → IsExchangeable q I (y i) (x i) × (w2 (x i) ≡ w2 (y i))
  first_none : (i j : ℕ) → j < i → i < m → w1 (x (suc i)) ≡ w1 (y j) → p (with_one (without_one I (y j)) (x (suc i))) ≡ false
  second_none : (i j : ℕ) → i < j → j < m → w2 (x i) ≡ w2 (y j) → q (with_one (without_one I (y j)) (x i)) ≡ false
  source : IsHeaviestAddable n (exchanges_at p I) w1 (x 0)
  sink : IsHeaviestAddable n (exchanges_at q I) w2 (x m)
  no_source : (i : ℕ) → i < m → is_heaviest_addable n (exchanges_at p I) w1 (x (suc i)) ≡ false
  no_sink : (i : ℕ) → i < m → is_heaviest_addable n (exchanges_at q I) w2 (x i) ≡ false
  members : (k : ℕ) → is_member k (exchanged_along I path) ≡ (is_value x (suc m) k || (is_member k I && not (is_value y m k)))

abbrev IsTightWalk : ℕ → (List ℕ → Bool) → (List ℕ → Bool) → (ℕ → Weight) → (ℕ → Weight) → List ℕ → List ℕ → Type 0
IsTightWalk n p q w1 w2 I path =
    IsWalk n (is_tight (exchanges_at p I) (exchanges_at q I) w1 w2) (is_heaviest_addable n (exchanges_at p I) w1)
    (is_heaviest_addable n (exchanges_at q I) w2) path

abbrev IsChordlessTight : ℕ → (List ℕ → Bool) → (List ℕ → Bool) → (ℕ → Weight) → (ℕ → Weight) → List ℕ → List ℕ → Type 0
IsChordlessTight n p q w1 w2 I path =
    IsChordless n (is_tight (exchanges_at p I) (exchanges_at q I) w1 w2) (is_heaviest_addable n (exchanges_at p I) w1)
    (is_heaviest_addable n (exchanges_at q I) w2) path

module _ (n : ℕ) (p q : List ℕ → Bool) (w1 w2 : ℕ → Weight) (I path : List ℕ) (w : IsTightWalk n p q w1 w2 I path) where
  even_outside : (i : ℕ) → double i < length path → is_member (get_or path (double i) 0) I ≡ false
  even_outside zero h = (addable_gives p I (get_or path 0 0) (heaviest_addable_gives n (exchanges_at p I) w1 (get_or path 0 0) w.first).adds).outside
  even_outside (suc i) h =
      let v : ℕ → ℕ = λ j. get_or path j 0 in
      let there = tight_from_outside p q w1 w2 I (v (double i)) (v (suc (double i))) (even_outside i (omega arith)) (w.steps (double i) (omega arith)) in
      let back = tight_from_inside p q w1 w2 I (v (suc (double i))) (v (suc (suc (double i)))) there.0.inside (w.steps (suc (double i)) h) in
      back.0.outside

  second_arc : (i : ℕ) → suc (double i) < length path
      → IsExchangeable q I (get_or path (suc (double i)) 0) (get_or path (double i) 0)
      × (w2 (get_or path (double i) 0) ≡ w2 (get_or path (suc (double i)) 0))
  second_arc i h =
      tight_from_outside p q w1 w2 I (get_or path (double i) 0) (get_or path (suc (double i)) 0) (even_outside i (omega arith)) (w.steps (double i) h)

  first_arc : (i : ℕ) → suc (suc (double i)) < length path
      → IsExchangeable p I (get_or path (suc (double i)) 0) (get_or path (suc (suc (double i))) 0)
      × (w1 (get_or path (suc (double i)) 0) ≡ w1 (get_or path (suc (suc (double i))) 0))
  first_arc i h =
      tight_from_inside p q w1 w2 I (get_or path (suc (double i)) 0) (get_or path (suc (suc (double i))) 0)
      (second_arc i (omega arith)).0.inside (w.steps (suc (double i)) h)

  -- the path has an odd number of vertices
  odd_length : (m : ℕ) × (length path ≡ suc (double m))
  odd_length = let half = even_or_odd w.arcs in let long = w.long in elim half.1 [
    | inl e ↦ (half.0, long ∙ ap suc e)
    | inr e ↦ absurd (
        let last = addable_gives q I (get_or path w.arcs 0) (heaviest_addable_gives n (exchanges_at q I) w2 (get_or path w.arcs 0) w.last).adds in
        let arc = second_arc half.0 (omega arith) in
        both_ways _ last.outside (ap (λ k. is_member (get_or path k 0) I) e ∙ arc.0.inside))
  ]

  alternating : IsChordlessTight n p q w1 w2 I path
      → (m : ℕ) × IsAlternating n p q w1 w2 I path m (λ i. get_or path (suc (double i)) 0) (λ i. get_or path (double i) 0)
  alternating d =
      let half = odd_length in
      let m = half.0 in
      let long = half.1 in
      let v : ℕ → ℕ = λ i. get_or path i 0 in
      let y : ℕ → ℕ = λ i. v (suc (double i)) in
      let x : ℕ → ℕ = λ i. v (double i) in
      let up : (i : ℕ) → i < m → suc (suc (double i)) < length path = λ i h. (let a = double-is i in let b = double-is m in omega arith) in
      let even : (i : ℕ) → i < suc m → double i < length path = λ i h. (let a = double-is i in let b = double-is m in omega arith) in
      let inside : (i : ℕ) → i < m → is_member (y i) I ≡ true = λ i h. (second_arc i (let a = up i h in omega arith)).0.inside in
      let outside : (i : ℕ) → i < suc m → is_member (x i) I ≡ false = λ i h. even_outside i (even i h) in
      let arcs : w.arcs ≡ double m = (let a = w.long in omega arith) in (
        m,
        record {
          inside = inside;
          outside = outside;
          ys_differ = λ i j h k. d.differ (suc (double i)) (suc (double j)) (let a = double-less i j h in omega arith) (let a = up j k in omega arith);
          xs_differ = λ i j h k. d.differ (double i) (double j) (let a = double-less i j h in omega arith) (even j k);
          first_own = λ i h. first_arc i (up i h);
          second_own = λ i h. second_arc i (let a = up i h in omega arith);
          first_none = λ i j h k e. false_from_ne_true _ (λ ok.
              both_ways _ (d.no_chord (suc (double j)) (suc (suc (double i))) (let a = double-less j i h in omega arith) (up i k))
              (tight_first p q w1 w2 I (y j) (x (suc i)) (inside j (omega arith)) (outside (suc i) (omega arith)) ok (sym e)));
          second_none = λ i j h k e. false_from_ne_true _ (λ ok.
              both_ways _ (d.no_chord (double i) (suc (double j)) (let a = double-less i j h in omega arith) (let a = up j k in omega arith))
              (tight_second p q w1 w2 I (x i) (y j) (inside j k) (outside i (omega arith)) ok e));
          source = heaviest_addable_gives n (exchanges_at p I) w1 (v 0) w.first;
          sink = subst (λ k. IsHeaviestAddable n (exchanges_at q I) w2 (v k)) arcs (heaviest_addable_gives n (exchanges_at q I) w2 (v w.arcs) w.last);
          no_source = λ i h. d.start_once (suc (suc (double i))) (omega arith) (up i h);
          no_sink = λ i h. d.goal_once (double i) (let a = up i h in omega arith);
          members = λ k. exchanged_by_values (is_member k (exchanged_along I path)) (is_member k path) (is_member k I) (is_value x (suc m) k) (is_value y m k)
              (is_member-exchanged_along k I path) (sym (is_value-list path k) ∙ ap (λ l. is_value v l k) long ∙ is_value-double v m k)
              (λ h. member_not_value x (suc m) k I h outside) (λ h. not_value y m k I h inside);
        },
      )

-- ---- both matroids' sides

-- what can be added is below n
addable_below : {n : ℕ} {p : List ℕ → Bool} → IsMatroid n p → (I : List ℕ) (e : ℕ) → p (with_one I e) ≡ true → e < n
addable_below laws I e ok = below_member (laws.sets (with_one I e) ok) (let a = eq-eqb e e refl in grind (arith, set_members))

module _ {n : ℕ} {p q : List ℕ → Bool} (lp : IsMatroid n p) (lq : IsMatroid n q) (w1 w2 : ℕ → Weight) (I path : List ℕ) (m : ℕ) (y x : ℕ → ℕ)
    (t : IsAlternating n p q w1 w2 I path m y x) where
  -- the second matroid's, in the order of the path
  second_side : IsHeaviest q w2 I → IsPathSide q w2 I (x m) m y x
  second_side best =
      let last = addable_gives q I (x m) t.sink.adds in
      record {
        heaviest = best;
        source_outside = last.outside;
        source_adds = last.passes;
        source_top = λ e o k. t.sink.most e (addable_below lq I e k) (addable_from q I e o k);
        inside = t.inside;
        outside = λ i h. t.outside i (omega arith);
        ys_differ = t.ys_differ;
        xs_differ = λ i j h k. t.xs_differ i j h (omega arith);
        source_differs = λ i h. t.xs_differ i m h (omega arith);
        own = λ i h. (t.second_own i h).0.passes;
        tight = λ i h. sym (t.second_own i h).1;
        no_shortcut = t.second_none;
        no_source = λ i h k. lighter_addable n (exchanges_at q I) w2 (x i) (x m) (addable_from q I (x i) (t.outside i (omega arith)) k) (t.no_sink i h) t.sink;
      }

  -- the first matroid's, in the opposite order
  first_side : IsHeaviest p w1 I → IsPathSide p w1 I (x 0) m (λ i. y (m - suc i)) (λ i. x (suc (m - suc i)))
  first_side best =
      let first = addable_gives p I (x 0) t.source.adds in
      record {
        heaviest = best;
        source_outside = first.outside;
        source_adds = first.passes;
        source_top = λ e o k. t.source.most e (addable_below lp I e k) (addable_from p I e o k);
        inside = λ i h. t.inside (m - suc i) (omega arith);
        outside = λ i h. t.outside (suc (m - suc i)) (omega arith);
        ys_differ = λ i j h k e. t.ys_differ (m - suc j) (m - suc i) (omega arith) (omega arith) (sym e);
        xs_differ = λ i j h k e. t.xs_differ (suc (m - suc j)) (suc (m - suc i)) (omega arith) (omega arith) (sym e);
        source_differs = λ i h e. t.xs_differ 0 (suc (m - suc i)) (omega arith) (omega arith) (sym e);
        own = λ i h. (t.first_own (m - suc i) (omega arith)).0.passes;
        tight = λ i h. (t.first_own (m - suc i) (omega arith)).1;
        no_shortcut = λ i j h k. t.first_none (m - suc i) (m - suc j) (omega arith) (omega arith);
        no_source = λ i h k. lighter_addable n (exchanges_at p I) w1 (x (suc (m - suc i))) (x 0)
            (addable_from p I (x (suc (m - suc i))) (t.outside (suc (m - suc i)) (omega arith)) k) (t.no_source (m - suc i) (omega arith)) t.source;
      }

  exchanged_in_both : IsHeaviest p w1 I → IsHeaviest q w2 I
      → (length (exchanged_along I path) ≡ suc (length I)) × IsHeaviest p w1 (exchanged_along I path) × IsHeaviest q w2 (exchanged_along I path)
  exchanged_in_both heaviest1 heaviest2 =
      let J = exchanged_along I path in
      let rises = IsRising-union (minus path I) (minus I path) (IsRising-minus I path (rising lp I heaviest1.passes)) in
      let first = path_side_step lp w1 I (x 0) m (λ i. y (m - suc i)) (λ i. x (suc (m - suc i))) (first_side heaviest1) J rises
      (λ k. let a = t.members k in
      let b = is_value-first x m k in
      let c = is_value-reversed (λ i. x (suc i)) m k in
      let d = is_value-reversed y m k in
      grind arith) in
      let second = path_side_step lq w2 I (x m) m y x (second_side heaviest2) J rises (λ k. let a = t.members k in grind arith) in
      (first.0, first.1, second.1)

-- the set after the exchange has one element more, and is heaviest of its size in both matroids
pub exchange_along_tight_path : {n : ℕ} {p q : List ℕ → Bool} → IsMatroid n p → IsMatroid n q → (w1 w2 : ℕ → Weight) (I path : List ℕ)
    → IsHeaviest p w1 I → IsHeaviest q w2 I → IsTightPath n (exchanges_at p I) (exchanges_at q I) w1 w2 path
    → (length (exchanged_along I path) ≡ suc (length I)) × IsHeaviest p w1 (exchanged_along I path) × IsHeaviest q w2 (exchanged_along I path)
exchange_along_tight_path {n} {p} {q} lp lq w1 w2 I path heaviest1 heaviest2 shortest =
    let chordless = shortest_walk_is_chordless n (is_tight (exchanges_at p I) (exchanges_at q I) w1 w2)
    (is_heaviest_addable n (exchanges_at p I) w1) (is_heaviest_addable n (exchanges_at q I) w2) path shortest in
    let found = alternating n p q w1 w2 I path shortest.walk chordless in
    exchanged_in_both lp lq w1 w2 I path found.0 (λ i. get_or path (suc (double i)) 0) (λ i. get_or path (double i) 0) found.1 heaviest1 heaviest2
