-- The change of the weights by the least slack of a reached set R. Each slack is above 0, or R would hold more, or a sink. No exchange
-- loses its sign, since no slack is less; what was reached stays reached, and the exchange of the least slack reaches one element more.
use Rattle.mat_exchange.proofs.Common.{◌≡◌, ℕ, ◌<◌, Bool, true, false, ◌&&◌, List, length, ◌⊎◌, inl, inr, refl, ap, arith, cases_Bool, cond-true, cond-false, both_ways, and_parts, and_from, or_cases, or_left, or_right, ints, is_member, IsSubset, with_one, without_one, IsReachedSet, set_members}
use Rattle.mat_exchange.proofs.Common.{IsRising-with_one, length-with_one, length-subset, with_one-IsSubset, below_member, reached_by_induction, zero_weight, ◌⊕◌, ◌⊖◌, ◌≺◌, ◌≼◌, is_same, Weight, pairs, by_below, same_gives, same_from, IsMatroid, IsHeaviest, Exchanges, exchanges_at}
use Rattle.mat_exchange.proofs.Common.{is_heaviest_addable, is_tight, IsStuckReach, IsSlack, IsLeastSlack, lowered, raised, IsChange, IsExchangeable, exchangeable_gives, exchangeable_from, heaviest_addable_gives, heaviest_addable_from, tight_first, tight_second}
use Rattle.mat_laws.specs.Slacks.IsSlack.{first_addition, first_exchange, second_exchange, second_addition}
use Rattle.mat_laws.proofs.LocallyHeaviest.{heaviest_from_exchanges, exchange_gains_nothing}

-- ---- the changed weights, element by element

pub lowered-member : (w : ℕ → Weight) (R : List ℕ) (d : Weight) (x : ℕ) → is_member x R ≡ true → lowered w R d x ≡ w x ⊖ d
lowered-member w R d x h = cond-true (is_member x R) (w x ⊖ d) (w x) h

pub lowered-outside : (w : ℕ → Weight) (R : List ℕ) (d : Weight) (x : ℕ) → is_member x R ≡ false → lowered w R d x ≡ w x
lowered-outside w R d x h = cond-false (is_member x R) (w x ⊖ d) (w x) h

pub raised-member : (w : ℕ → Weight) (R : List ℕ) (d : Weight) (x : ℕ) → is_member x R ≡ true → raised w R d x ≡ w x ⊕ d
raised-member w R d x h = cond-true (is_member x R) (w x ⊕ d) (w x) h

pub raised-outside : (w : ℕ → Weight) (R : List ℕ) (d : Weight) (x : ℕ) → is_member x R ≡ false → raised w R d x ≡ w x
raised-outside w R d x h = cond-false (is_member x R) (w x ⊕ d) (w x) h

-- the two weights of an element keep their sum
pub changed_adds : (w1 w2 : ℕ → Weight) (R : List ℕ) (d : Weight) (x : ℕ) → lowered w1 R d x ⊕ raised w2 R d x ≡ w1 x ⊕ w2 x
changed_adds w1 w2 R d x = elim (cases_Bool (is_member x R)) [
  | inl m ↦ rw (lowered-member w1 R d x m, raised-member w2 R d x m) (kept (w1 x) (w2 x))
  | inr o ↦ rw (lowered-outside w1 R d x o, raised-outside w2 R d x o) refl
]
  where
    kept : (a b : Weight) → (a ⊖ d) ⊕ (b ⊕ d) ≡ a ⊕ b
    kept a b = omega (arith, ints, pairs)

-- an exchange that gains nothing gains nothing after the first weight falls, where the slack of one that leaves R is at least d
pub lowered-keeps : (w : ℕ → Weight) (R : List ℕ) (d : Weight) (x y : ℕ) → zero_weight ≺ d → w x ≼ w y
    → (is_member y R ≡ true → is_member x R ≡ false → d ≼ (w y ⊖ w x)) → lowered w R d x ≼ lowered w R d y
lowered-keeps w R d x y plus gains slack =
    elim (cases_Bool (is_member x R)) [
      | inl xr ↦ elim (cases_Bool (is_member y R)) [
        | inl yr ↦ rw (lowered-member w R d x xr, lowered-member w R d y yr) (omega (arith, ints, pairs))
        | inr yr ↦ rw (lowered-member w R d x xr, lowered-outside w R d y yr) (omega (arith, ints, pairs))
      ]
      | inr xr ↦ elim (cases_Bool (is_member y R)) [
        | inl yr ↦ (let least = slack yr xr in rw (lowered-outside w R d x xr, lowered-member w R d y yr) (omega (arith, ints, pairs)))
        | inr yr ↦ rw (lowered-outside w R d x xr, lowered-outside w R d y yr) gains
      ]
    ]

-- and so after the second weight rises
pub raised-keeps : (w : ℕ → Weight) (R : List ℕ) (d : Weight) (x y : ℕ) → zero_weight ≺ d → w x ≼ w y
    → (is_member x R ≡ true → is_member y R ≡ false → d ≼ (w y ⊖ w x)) → raised w R d x ≼ raised w R d y
raised-keeps w R d x y plus gains slack =
    elim (cases_Bool (is_member x R)) [
      | inl xr ↦ elim (cases_Bool (is_member y R)) [
        | inl yr ↦ rw (raised-member w R d x xr, raised-member w R d y yr) (omega (arith, ints, pairs))
        | inr yr ↦ (let least = slack xr yr in rw (raised-member w R d x xr, raised-outside w R d y yr) (omega (arith, ints, pairs)))
      ]
      | inr xr ↦ elim (cases_Bool (is_member y R)) [
        | inl yr ↦ rw (raised-outside w R d x xr, raised-member w R d y yr) (omega (arith, ints, pairs))
        | inr yr ↦ rw (raised-outside w R d x xr, raised-outside w R d y yr) gains
      ]
    ]

-- a tight arc is an exchange in the first matroid, or the other way in the second, and level in that weight
module _ (a b : Exchanges) where
  pub tight_cases : (w1 w2 : ℕ → Weight) (u v : ℕ) → is_tight a b w1 w2 u v ≡ true
      → ((a.trades u v ≡ true) × (w1 u ≡ w1 v)) ⊎ ((b.trades v u ≡ true) × (w2 u ≡ w2 v))
  tight_cases w1 w2 u v h = elim (or_cases (a.trades u v && is_same (w1 u) (w1 v)) (b.trades v u && is_same (w2 u) (w2 v)) h) [
    | inl k ↦ (let s = and_parts (a.trades u v) (is_same (w1 u) (w1 v)) k in inl (s.0, same_gives (w1 u) (w1 v) s.1))
    | inr k ↦ (let s = and_parts (b.trades v u) (is_same (w2 u) (w2 v)) k in inr (s.0, same_gives (w2 u) (w2 v) s.1))
  ]

  pub tight_by_first : (w1 w2 : ℕ → Weight) (y x : ℕ) → a.trades y x ≡ true → w1 y ≡ w1 x → is_tight a b w1 w2 y x ≡ true
  tight_by_first w1 w2 y x t e = or_left (a.trades y x && is_same (w1 y) (w1 x)) _
      (and_from (a.trades y x) (is_same (w1 y) (w1 x)) t (same_from (w1 y) (w1 x) e))

  pub tight_by_second : (w1 w2 : ℕ → Weight) (u x : ℕ) → b.trades x u ≡ true → w2 u ≡ w2 x → is_tight a b w1 w2 u x ≡ true
  tight_by_second w1 w2 u x t e = or_right (a.trades u x && is_same (w1 u) (w1 x)) _
      (and_from (b.trades x u) (is_same (w2 u) (w2 x)) t (same_from (w2 u) (w2 x) e))

  -- inside a set whose weights change it stays tight
  pub tight_stays : (w1 w2 : ℕ → Weight) (R : List ℕ) (d : Weight) (u v : ℕ) → is_member u R ≡ true → is_member v R ≡ true
      → is_tight a b w1 w2 u v ≡ true → is_tight a b (lowered w1 R d) (raised w2 R d) u v ≡ true
  tight_stays w1 w2 R d u v ur vr k = elim (tight_cases w1 w2 u v k) [
    | inl s ↦ (let e = s.1 in tight_by_first (lowered w1 R d) (raised w2 R d) u v s.0
        (rw (lowered-member w1 R d u ur, lowered-member w1 R d v vr) (ap (λ z. z ⊖ d) e)))
    | inr s ↦ (let e = s.1 in tight_by_second (lowered w1 R d) (raised w2 R d) u v s.0
        (rw (raised-member w2 R d u ur, raised-member w2 R d v vr) (ap (λ z. z ⊕ d) e)))
  ]

-- a difference of weights is above 0 unless the weights rise or are the same
difference_positive : (a b d : Weight) → d ≡ a ⊖ b → (a ≼ b → ⊥) → zero_weight ≺ d
difference_positive a b d e rises_not = by_below b a (λ less. omega (arith, ints, pairs)) (λ le. absurd (rises_not le))

-- a member of an independent set is below n, and so is what can be exchanged for it
member_below : {n : ℕ} {p : List ℕ → Bool} → IsMatroid n p → (I : List ℕ) → p I ≡ true → (x : ℕ) → is_member x I ≡ true
    → x < n
member_below laws I ok x h = below_member (laws.sets I ok) h

exchanged_below : {n : ℕ} {p : List ℕ → Bool} → IsMatroid n p → (I : List ℕ) (x y : ℕ) → p (with_one (without_one I y) x) ≡ true
    → x < n
exchanged_below laws I x y ok = member_below laws (with_one (without_one I y) x) ok x (grind (arith, set_members))

-- a heaviest set stays heaviest where its exchanges gain nothing after the weights change either
stays_heaviest : {n : ℕ} {p : List ℕ → Bool} → IsMatroid n p → (w changed : ℕ → Weight) (I : List ℕ) → IsHeaviest p w I
    → ((x y : ℕ) → x < n → y < n → (exchanges_at p I).trades y x ≡ true → w x ≼ w y → changed x ≼ changed y) → IsHeaviest p changed I
stays_heaviest {n} {p} laws w changed I heaviest keeps = heaviest_from_exchanges laws changed I heaviest.passes (λ x y m o ok.
    keeps x y (exchanged_below laws I x y ok) (member_below laws I heaviest.passes y m) (exchangeable_from p I y x m o ok)
    (exchange_gains_nothing laws w I x y heaviest m o ok))

module _ {n : ℕ} {p q : List ℕ → Bool} (lp : IsMatroid n p) (lq : IsMatroid n q) (w1 w2 : ℕ → Weight) (I R : List ℕ)
    (first_heaviest : IsHeaviest p w1 I) (second_heaviest : IsHeaviest q w2 I)
    (stuck : IsStuckReach n (exchanges_at p I) (exchanges_at q I) w1 w2 R) where
  -- what can be added outside R weighs less than the heaviest that can be added, or it would be a source
  first_addition_falls : (top x : ℕ) → x < n → is_heaviest_addable n (exchanges_at p I) w1 top ≡ true
      → (exchanges_at p I).adds x ≡ true → is_member x R ≡ false → w1 top ≼ w1 x → ⊥
  first_addition_falls top x lx t a out le =
      let s = heaviest_addable_gives n (exchanges_at p I) w1 top t in
      both_ways _ out (stuck.reached.starts x lx (heaviest_addable_from n (exchanges_at p I) w1 x a (λ e l k.
      let most = s.most e l k in omega (arith, ints, pairs))))

  -- an exchange that leaves R loses weight, or it would be a tight arc
  first_exchange_falls : (y x : ℕ) → x < n → IsExchangeable p I y x → is_member y R ≡ true → is_member x R ≡ false
      → w1 y ≼ w1 x → ⊥
  first_exchange_falls y x lx t m out le =
      let gains = exchange_gains_nothing lp w1 I x y first_heaviest t.inside t.outside t.passes in
      both_ways _ out (stuck.reached.closed y x m lx (tight_first p q w1 w2 I y x t.inside t.outside t.passes (omega (arith, ints, pairs))))

  second_exchange_falls : (x y : ℕ) → y < n → IsExchangeable q I y x → is_member x R ≡ true → is_member y R ≡ false
      → w2 y ≼ w2 x → ⊥
  second_exchange_falls x y ly t m out le =
      let gains = exchange_gains_nothing lq w2 I x y second_heaviest t.inside t.outside t.passes in
      both_ways _ out (stuck.reached.closed x y m ly (tight_second p q w1 w2 I x y t.inside t.outside t.passes (omega (arith, ints, pairs))))

  -- what can be added in R weighs less than the heaviest that can be added, or it would be a sink
  second_addition_falls : (top x : ℕ) → is_heaviest_addable n (exchanges_at q I) w2 top ≡ true
      → (exchanges_at q I).adds x ≡ true → is_member x R ≡ true → w2 top ≼ w2 x → ⊥
  second_addition_falls top x t a m le =
      let s = heaviest_addable_gives n (exchanges_at q I) w2 top t in
      both_ways _ (stuck.no_sink x m) (heaviest_addable_from n (exchanges_at q I) w2 x a (λ e l k.
      let most = s.most e l k in omega (arith, ints, pairs)))

  -- each slack of a stuck reach is above 0
  slack_positive : (d : Weight) → IsSlack n (exchanges_at p I) (exchanges_at q I) w1 w2 R d → zero_weight ≺ d
  slack_positive d (first_addition top x lt lx t a out e) =
      difference_positive (w1 top) (w1 x) d e (λ le. first_addition_falls top x lx t a out le)
  slack_positive d (first_exchange y x ly lx t m out e) =
      difference_positive (w1 y) (w1 x) d e (λ le. first_exchange_falls y x lx (exchangeable_gives p I y x t) m out le)
  slack_positive d (second_exchange x y lx ly t m out e) =
      difference_positive (w2 y) (w2 x) d e (λ le. second_exchange_falls x y ly (exchangeable_gives q I y x t) m out le)
  slack_positive d (second_addition top x lt lx t a m e) =
      difference_positive (w2 top) (w2 x) d e (λ le. second_addition_falls top x t a m le)

  module _ (d : Weight) (slack : IsLeastSlack n (exchanges_at p I) (exchanges_at q I) w1 w2 R d) where
    -- I stays heaviest in the first matroid
    first_stays_heaviest : IsHeaviest p (lowered w1 R d) I
    first_stays_heaviest = stays_heaviest lp w1 (lowered w1 R d) I first_heaviest (λ x y lx ly t gains.
        lowered-keeps w1 R d x y (slack_positive d slack.slack) gains (λ yr xr. slack.least (w1 y ⊖ w1 x) (first_exchange y x ly lx t yr xr refl)))

    -- and in the second
    second_stays_heaviest : IsHeaviest q (raised w2 R d) I
    second_stays_heaviest = stays_heaviest lq w2 (raised w2 R d) I second_heaviest (λ x y lx ly t gains.
        raised-keeps w2 R d x y (slack_positive d slack.slack) gains (λ xr yr. slack.least (w2 y ⊖ w2 x) (second_exchange x y lx ly t xr yr refl)))

    -- a source stays a source
    source_stays : (v : ℕ) → v < n → is_heaviest_addable n (exchanges_at p I) w1 v ≡ true
        → is_heaviest_addable n (exchanges_at p I) (lowered w1 R d) v ≡ true
    source_stays v lv top =
        let s = heaviest_addable_gives n (exchanges_at p I) w1 v top in
        heaviest_addable_from n (exchanges_at p I) (lowered w1 R d) v s.adds (λ e le a.
        lowered-keeps w1 R d e v (slack_positive d slack.slack) (s.most e le a)
        (λ vr er. slack.least (w1 v ⊖ w1 e) (first_addition v e lv le top a er refl)))

    -- what was reached is reached after the change
    all_stays : (S : List ℕ) → IsReachedSet n (is_tight (exchanges_at p I) (exchanges_at q I) (lowered w1 R d) (raised w2 R d))
        (is_heaviest_addable n (exchanges_at p I) (lowered w1 R d)) S → (v : ℕ) → is_member v R ≡ true → is_member v S ≡ true
    all_stays S reached = reached_by_induction R (λ v. is_member v S) stuck.reached
        (λ v lv top. reached.starts v lv (source_stays v lv top))
        (λ u v ur lv us tight. reached.closed u v us lv (tight_stays (exchanges_at p I) (exchanges_at q I) w1 w2 R d u v ur (stuck.reached.closed u v ur lv tight) tight))

    module _ (S : List ℕ) (later : IsStuckReach n (exchanges_at p I) (exchanges_at q I) (lowered w1 R d) (raised w2 R d) S) where
      reached_stays : (v : ℕ) → is_member v R ≡ true → is_member v S ≡ true
      reached_stays = all_stays S later.reached

      -- a source outside R
      new_source : (top x : ℕ) → top < n → x < n → is_heaviest_addable n (exchanges_at p I) w1 top ≡ true
          → (exchanges_at p I).adds x ≡ true → is_member x R ≡ false → d ≡ w1 top ⊖ w1 x → is_member x S ≡ true
      new_source top x lt lx t a out e =
          let s = heaviest_addable_gives n (exchanges_at p I) (lowered w1 R d) top (source_stays top lt t) in
          let same : lowered w1 R d x ≡ lowered w1 R d top =
          rw (lowered-outside w1 R d x out, lowered-member w1 R d top (stuck.reached.starts top lt t)) (omega (arith, ints, pairs)) in
          later.reached.starts x lx (heaviest_addable_from n (exchanges_at p I) (lowered w1 R d) x a (λ v lv k. rw same (s.most v lv k)))

      -- a sink in R, which there is not
      new_sink : (top x : ℕ) → top < n → is_heaviest_addable n (exchanges_at q I) w2 top ≡ true
          → (exchanges_at q I).adds x ≡ true → is_member x R ≡ true → d ≡ w2 top ⊖ w2 x → ⊥
      new_sink top x lt t a m e =
          let s = heaviest_addable_gives n (exchanges_at q I) w2 top t in
          both_ways _ (later.no_sink x (reached_stays x m)) (heaviest_addable_from n (exchanges_at q I) (raised w2 R d) x a (λ v lv k.
          let most = s.most v lv k in
          elim (cases_Bool (is_member v R)) [
            | inl vr ↦ (let least = slack.least (w2 top ⊖ w2 v) (second_addition top v lt lv t k vr refl) in
                rw (raised-member w2 R d v vr, raised-member w2 R d x m) (omega (arith, ints, pairs)))
            | inr vr ↦ rw (raised-outside w2 R d v vr, raised-member w2 R d x m) (omega (arith, ints, pairs))
          ]))

      -- an exchange out of R, along which an arc gets tight
      new_first_exchange : (y x : ℕ) → x < n → IsExchangeable p I y x → is_member y R ≡ true → is_member x R ≡ false
          → d ≡ w1 y ⊖ w1 x → is_member x S ≡ true
      new_first_exchange y x lx t m out e =
          later.reached.closed y x (reached_stays y m) lx (tight_first p q (lowered w1 R d) (raised w2 R d) I y x t.inside t.outside t.passes
          (rw (lowered-member w1 R d y m, lowered-outside w1 R d x out) (omega (arith, ints, pairs))))

      new_second_exchange : (x y : ℕ) → y < n → IsExchangeable q I y x → is_member x R ≡ true → is_member y R ≡ false
          → d ≡ w2 y ⊖ w2 x → is_member y S ≡ true
      new_second_exchange x y ly t m out e =
          later.reached.closed x y (reached_stays x m) ly (tight_second p q (lowered w1 R d) (raised w2 R d) I x y t.inside t.outside t.passes
          (rw (raised-member w2 R d x m, raised-outside w2 R d y out) (omega (arith, ints, pairs))))

      -- an element of S outside R
      one_more : IsSlack n (exchanges_at p I) (exchanges_at q I) w1 w2 R d → (x : ℕ) × (is_member x S ≡ true) × (is_member x R ≡ false)
      one_more (first_addition top x lt lx t a out e) = (x, new_source top x lt lx t a out e, out)
      one_more (first_exchange y x ly lx t m out e) = (x, new_first_exchange y x lx (exchangeable_gives p I y x t) m out e, out)
      one_more (second_exchange x y lx ly t m out e) = (y, new_second_exchange x y ly (exchangeable_gives q I y x t) m out e, out)
      one_more (second_addition top x lt lx t a m e) = absurd (new_sink top x lt t a m e)

      -- a later search that is stuck reaches more
      reaches_more : length R < length S
      reaches_more =
          let more = one_more slack.slack in
          let r = stuck.reached.set.rising in
          let inside : IsSubset (with_one R more.0) S = with_one-IsSubset R S more.0 (record { inside = reached_stays }) more.1 in
          let long = length-with_one R more.0 r more.2 in
          let fits = length-subset (with_one R more.0) S (IsRising-with_one R more.0 r) later.reached.set.rising inside in
          omega arith

  -- the change by the least slack
  pub change_by_least_slack : (d : Weight) → IsLeastSlack n (exchanges_at p I) (exchanges_at q I) w1 w2 R d → IsChange n p q w1 w2 I R d
  change_by_least_slack d slack = record {
    positive = slack_positive d slack.slack;
    adds = changed_adds w1 w2 R d;
    first = first_stays_heaviest d slack;
    second = second_stays_heaviest d slack;
    stays = λ S reached. record { inside = all_stays d slack S reached };
    grows = λ S later. reaches_more d slack S later;
  }
