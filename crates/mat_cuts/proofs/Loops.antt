-- What the loops over arcs and vertices keep.
use Rattle.mat_cuts.proofs.Common.{if◌then◌else◌, ◌≡◌, ◌≢◌, ℕ, suc, ◌+◌, ◌<◌, ◌≤◌, ◌⊎◌, Bool, true, false, not, ◌&&◌, ◌||◌, eqb, List, [], ◌∷◌, ◌++◌, length, filter, get_or, replicate, set, take, Option, None, Some, MatchOption, inl, inr, refl, sym, ap, ◌∙◌, subst, arith, ℤ, pos, ◌+ℤ◌, ◌≤ℤ◌, ◌<ℤ◌}
use Rattle.mat_cuts.proofs.Common.{below_more, and_from, and_left, and_parts, both_ways, cases_eq, cases_lt, eq-eqb, eqb-true, false_from_ne_true, false≢true, lt-ltb, ne_eqb, or_cases, or_left, or_right, ints, get_or-replicate, get_or-set_other, get_or-set_same, get_or_past, length-replicate}
use Rattle.mat_cuts.proofs.Common.{length-set, take_all, filter-append, never, ends_of, those_below, all_below, is_member, IsRising, IsSet, all_below-more, below_member, is_member-get_or, is_member-those_below, IsSet-those_below, AllBelow-at, and_not_none, cost_at, weight_where, leaves}
use Rattle.mat_cuts.proofs.Common.{TellsEarliest, IsPaid, at, comes, falls, IsFirstTime, IsLeast, IsLeastOf, IsLowered, Raised}
use Rattle.mat_sets.proofs.Steps.{is_member-take_more, is_member-take_next}
use Rattle.mat_cuts.proofs.Paths.{falls-cases}

-- ---- loops over the arcs of a list

pub members_next : (P : ℕ → Type 0) (items : List ℕ) (i : ℕ) → i < length items → ((b : ℕ) → is_member b (take i items) ≡ true → P b)
    → P (get_or items i 0) → (b : ℕ) → is_member b (take (i + 1) items) ≡ true → P b
members_next P items i l old new b m = elim (or_cases (is_member b (take i items)) (eqb b (get_or items i 0)) (sym (is_member-take_more items i b l) ∙ m)) [
  | inl before ↦ old b before
  | inr here ↦ subst P (sym (eqb-true b (get_or items i 0) here)) new
]

-- an arc that does not leave stays inside
pub stays : (tail head : Bool) → (tail && not head) ≡ false → tail ≡ true → head ≡ true
stays true true h t = refl
stays true false h t = absurd (false≢true (sym h))
stays false head h t = absurd (false≢true t)

-- the list of the numbers that pass
pub those_below-push : (n : ℕ) (test : ℕ → Bool) → test n ≡ true → those_below (n + 1) test ≡ those_below n test ++ n ∷ []
unfolding those_below
those_below-push n test t = ap (filter test) (all_below-more n) ∙ filter-append test (all_below n) (n ∷ [])
    ∙ ap (λ b. filter test (all_below n) ++ (if b then n ∷ [] else [])) t

module _ (count : ℕ) (test : ℕ → Bool) (among : List ℕ) (those : among ≡ those_below count test) where
  pub those-set : IsSet count among
  those-set = subst (IsSet count) (sym those) (IsSet-those_below count test)

  pub those-is : (a : ℕ) → a < count → is_member a among ≡ test a
  those-is a l = ap (is_member a) those ∙ is_member-those_below a count test ∙ ap (λ b. b && test a) (lt-ltb a count l)

  pub those-passes : (a : ℕ) → is_member a among ≡ true → test a ≡ true
  those-passes a m = sym (those-is a (below_member those-set m)) ∙ m

-- ---- the least cost

-- among the first arcs of the list
pub record IsLeastSoFar (items : List ℕ) (reduced : List ℤ) (i best : ℕ) : Type 0 where
  pub member : is_member best items ≡ true
  pub least : (b : ℕ) → is_member b (take i items) ≡ true → cost_at reduced best ≤ℤ cost_at reduced b

pub IsLeastSoFar-better : (items : List ℕ) (reduced : List ℤ) (i best : ℕ) → i < length items
    → cost_at reduced (get_or items i 0) <ℤ cost_at reduced best → IsLeastSoFar items reduced i best
    → IsLeastSoFar items reduced (i + 1) (get_or items i 0)
IsLeastSoFar-better items reduced i best l less s = record {
  member = is_member-get_or items i _ l refl;
  least = members_next (λ b. cost_at reduced (get_or items i 0) ≤ℤ cost_at reduced b) items i l
      (λ b m. let k = s.least b m in omega (arith, ints)) (omega (arith, ints));
}

pub IsLeastSoFar-keep : (items : List ℕ) (reduced : List ℤ) (i best : ℕ) → i < length items
    → cost_at reduced best ≤ℤ cost_at reduced (get_or items i 0) → IsLeastSoFar items reduced i best
    → IsLeastSoFar items reduced (i + 1) best
IsLeastSoFar-keep items reduced i best l more s = record {
  member = s.member;
  least = members_next (λ b. cost_at reduced best ≤ℤ cost_at reduced b) items i l s.least more;
}

pub IsLeastSoFar-end : (items : List ℕ) (reduced : List ℤ) (i best : ℕ) → length items ≤ i → IsLeastSoFar items reduced i best
    → IsLeastOf items reduced best
IsLeastSoFar-end items reduced i best past s = record {
  member = s.member;
  least = λ b m. s.least b (ap (is_member b) (take_all i items past) ∙ m);
}

-- ---- the earliest arc

module _ (ends : ℕ → ℕ × ℕ) (since reached : List ℕ) where
  -- among the first arcs of a list
  pub record IsBest (done : List ℕ) (best : ℕ) (found : Option ℕ) : Type 0 where
    pub most : best ≤ never
    pub first : (b : ℕ) → is_member b done ≡ true → leaves ends reached b ≡ true → best ≤ at since b
    pub found_is : MatchOption found (best ≡ never)
        (λ a. (is_member a done ≡ true) × ((at since a ≡ best) × (best < never)) × (leaves ends reached a ≡ true))

  pub IsBest-take : (items : List ℕ) (i best : ℕ) (found : Option ℕ) → i < length items → at since (get_or items i 0) < best
      → leaves ends reached (get_or items i 0) ≡ true
      → IsBest (take i items) best found → IsBest (take (i + 1) items) (at since (get_or items i 0)) (Some (get_or items i 0))
  IsBest-take items i best found l less leaving b = (let m = b.most in let x = get_or items i 0 in record {
    most = omega arith;
    first = members_next (λ c. leaves ends reached c ≡ true → at since x ≤ at since c) items i l
        (λ c m t. let k = b.first c m t in omega arith) (λ t. omega arith);
    found_is = (is_member-take_more items i x l ∙ or_right (is_member x (take i items)) _ (eq-eqb x x refl), (refl, omega arith), leaving);
  })

  pub IsBest-skip : (items : List ℕ) (i best : ℕ) (found : Option ℕ) → i < length items
      → (best ≤ at since (get_or items i 0)) ⊎ (leaves ends reached (get_or items i 0) ≡ false)
      → IsBest (take i items) best found → IsBest (take (i + 1) items) best found
  IsBest-skip items i best found l why b = record {
    most = b.most;
    first = members_next (λ c. leaves ends reached c ≡ true → best ≤ at since c) items i l b.first
        (λ t. elim why [ inl le ↦ le | inr stays ↦ absurd (both_ways _ stays t) ]);
    found_is = kept found b.found_is;
  }
    where
      kept : (found : Option ℕ)
          → MatchOption found (best ≡ never)
          (λ a. (is_member a (take i items) ≡ true) × ((at since a ≡ best) × (best < never)) × (leaves ends reached a ≡ true))
          → MatchOption found (best ≡ never)
          (λ a. (is_member a (take (i + 1) items) ≡ true) × ((at since a ≡ best) × (best < never)) × (leaves ends reached a ≡ true))
      kept None h = h
      kept (Some a) h = (is_member-take_more items i a l ∙ or_left (is_member a (take i items)) _ h.0, h.1, h.2)

  pub IsBest-end : (items : List ℕ) (i best : ℕ) (found : Option ℕ) → length items ≤ i
      → ((a : ℕ) → is_member a items ≡ true → at since a < never) → IsBest (take i items) best found
      → TellsEarliest ends since items reached found
  IsBest-end items i best None past timed b = λ c m. false_from_ne_true _ (λ t.
      let k = b.first c (ap (is_member c) (take_all i items past) ∙ m) t in let e = b.found_is in let early = timed c m in absurd (omega arith))
  IsBest-end items i best (Some a) past timed b = (let f = b.found_is in let e = f.1.0 in record {
    member = ap (is_member a) (sym (take_all i items past)) ∙ f.0;
    leaving = f.2;
    first = λ c m t. let k = b.first c (ap (is_member c) (take_all i items past) ∙ m) t in omega arith;
  })

-- ---- the places that fall

pub record AreFalling (to last : ℕ) (before place : List ℕ) (n : ℕ) : Type 0 where
  pub long : length place ≡ length before
  pub done : (w : ℕ) → w < n → at place w ≡ falls to last (at before w)
  pub rest : (w : ℕ) → n ≤ w → at place w ≡ at before w

pub AreFalling-keep : (to last : ℕ) (before place : List ℕ) (n : ℕ) → falls to last (at place n) ≡ at place n
    → AreFalling to last before place n
    → AreFalling to last before place (n + 1)
AreFalling-keep to last before place n e f = record {
  long = f.long;
  done = below_more (λ w. at place w ≡ falls to last (at before w)) n f.done (sym e ∙ ap (falls to last) (f.rest n (omega arith)));
  rest = λ w l. f.rest w (omega arith);
}

pub AreFalling-set : (to last : ℕ) (before place : List ℕ) (n : ℕ) → n < length place → falls to last (at place n) ≡ to
    → AreFalling to last before place n
    → AreFalling to last before (set place n to) (n + 1)
AreFalling-set to last before place n l e f = record {
  long = length-set place n to ∙ f.long;
  done = below_more (λ w. at (set place n to) w ≡ falls to last (at before w)) n
      (λ w lw. get_or-set_other place n w to 0 (λ e. absurd (omega arith)) ∙ f.done w lw)
      (get_or-set_same place n to 0 l ∙ sym e ∙ ap (falls to last) (f.rest n (omega arith)));
  rest = λ w lw. get_or-set_other place n w to 0 (λ e. absurd (omega arith)) ∙ f.rest w (omega arith);
}

pub falls-within : (to last p : ℕ) → to ≤ p → p ≤ last → falls to last p ≡ to
falls-within to last p l k = elim (falls-cases to last p) [
  | inl c ↦ absurd (let m = c.0 in omega arith)
  | inr (inl c) ↦ c.2
  | inr (inr c) ↦ absurd (let m = c.0 in omega arith)
]

pub falls-outside : (to last p : ℕ) → (p < to) ⊎ (last < p) → falls to last p ≡ p
falls-outside to last p out = elim (falls-cases to last p) [
  | inl c ↦ c.1
  | inr (inl c) ↦ elim out [ inl l ↦ absurd (let m = c.0 in omega arith) | inr l ↦ absurd (let m = c.1 in omega arith) ]
  | inr (inr c) ↦ c.1
]

pub AreFalling-end : (to last : ℕ) (before place : List ℕ) (n : ℕ) → n ≡ length before → AreFalling to last before place n
    → (w : ℕ) → at place w ≡ falls to last (at before w)
AreFalling-end to last before place n e f w = elim (cases_lt w n) [
  | inl l ↦ f.done w l
  | inr past ↦ (let zero_there : at before w ≡ 0 = get_or_past before w 0 (omega arith) in
      f.rest w past ∙ zero_there ∙ sym (ap (falls to last) zero_there ∙ none))
]
  where
    none : falls to last 0 ≡ 0
    none = elim (falls-cases to last 0) [
      | inl c ↦ c.1
      | inr (inl c) ↦ (let e = c.2 in let l = c.0 in omega arith)
      | inr (inr c) ↦ c.1
    ]

-- ---- the first times

pub record AreFirstTimes (costs : List ℤ) (since : List ℕ) (n : ℕ) : Type 0 where
  pub long : length since ≡ n
  pub times : (a : ℕ) → a < n → IsFirstTime (cost_at costs a) (at since a)

-- ---- what is lowered

module _ (count : ℕ) (least : ℤ) (next : ℕ) (reduced : List ℤ) (since : List ℕ) where
  pub IsLowered-same : (test other : ℕ → Bool) (left : List ℤ) (later : List ℕ) → ((a : ℕ) → a < count → test a ≡ other a)
      → IsLowered count test least next reduced left since later → IsLowered count other least next reduced left since later
  IsLowered-same test other left later same w = record {
    left_long = w.left_long;
    later_long = w.later_long;
    left_is = λ a l. subst (λ b. cost_at reduced a ≡ cost_at left a +ℤ weight_where b least) (same a l) (w.left_is a l);
    later_is = λ a l. subst (λ b. ((at later a ≡ at since a) × (b ≡ true → cost_at left a ≢ pos 0))
        ⊎ ((at later a ≡ next) × ((b ≡ true) × (cost_at left a ≡ pos 0))))
        (same a l) (w.later_is a l);
  }

  -- nothing is taken yet from the next arc of the list
  pub IsLowered-next : (items : List ℕ) (i : ℕ) (left : List ℤ) (later : List ℕ) → IsSet count items → i < length items
      → IsLowered count (λ a. is_member a (take i items)) least next reduced left since later
      → cost_at left (get_or items i 0) ≡ cost_at reduced (get_or items i 0)
  IsLowered-next items i left later set l w =
      let x = get_or items i 0 in
      let none : weight_where (is_member x (take i items)) least ≡ pos 0 = ap (λ b. weight_where b least) (is_member-take_next items i set.rising l) in
      let was = w.left_is x (AllBelow-at count items i set.below l) in
      omega (arith, ints)

  -- one arc more
  pub IsLowered-more : (items : List ℕ) (i : ℕ) (left : List ℤ) (later timed : List ℕ) (z : ℤ) → IsRising items → i < length items
      → get_or items i 0 < length left → z +ℤ least ≡ cost_at reduced (get_or items i 0)
      → ((timed ≡ later) × (z ≢ pos 0)) ⊎ ((timed ≡ set later (get_or items i 0) next) × ((z ≡ pos 0) × (get_or items i 0 < length later)))
      → IsLowered count (λ a. is_member a (take i items)) least next reduced left since later
      → IsLowered count (λ a. is_member a (take (i + 1) items)) least next reduced (set left (get_or items i 0) z) since timed
  IsLowered-more items i left later timed z rising l inside e how w = record {
    left_long = length-set left x z ∙ w.left_long;
    later_long = elim how [ inl h ↦ ap length h.0 ∙ w.later_long | inr h ↦ ap length h.0 ∙ length-set later x next ∙ w.later_long ];
    left_is = λ a la. elim (cases_eq a x) [
      | inl same ↦ (let full : weight_where (is_member a (take (i + 1) items)) least ≡ least = ap (λ b. weight_where b least) (here a same) in
          let value : cost_at (set left x z) a ≡ z = ap (cost_at (set left x z)) same ∙ new in
          let at_x : cost_at reduced a ≡ cost_at reduced x = ap (cost_at reduced) same in omega (arith, ints))
      | inr d ↦ subst (λ b. cost_at reduced a ≡ cost_at (set left x z) a +ℤ weight_where b least) (sym (there a d))
          (w.left_is a la ∙ ap (λ y. y +ℤ weight_where (is_member a (take i items)) least) (sym (other a d)))
    ];
    later_is = λ a la. elim (cases_eq a x) [
      | inl same ↦ subst (λ k. ((at timed k ≡ at since k) × (is_member k (take (i + 1) items) ≡ true → cost_at (set left x z) k ≢ pos 0))
          ⊎ ((at timed k ≡ next) × ((is_member k (take (i + 1) items) ≡ true) × (cost_at (set left x z) k ≡ pos 0)))) (sym same) (elim how [
            | inl h ↦ inl (ap (λ t. at t x) h.0 ∙ unchanged (subst (λ k. k < count) same la), λ m zero_there. h.1 (sym new ∙ zero_there))
            | inr h ↦ inr (ap (λ t. at t x) h.0 ∙ get_or-set_same later x next 0 h.1.1, (here x refl, new ∙ h.1.0))
          ])
      | inr d ↦ (let o = other a d in let k = kept a d in elim (w.later_is a la) [
        | inl h ↦ inl (k ∙ h.0, λ m zero_there. h.1 (sym (there a d) ∙ m) (sym o ∙ zero_there))
        | inr h ↦ inr (k ∙ h.0, (there a d ∙ h.1.0, o ∙ h.1.1))
      ])
    ];
  }
    where
      x : ℕ
      x = get_or items i 0

      new : cost_at (set left x z) x ≡ z
      new = get_or-set_same left x z (pos 0) inside

      other : (a : ℕ) → (a ≡ x → ⊥) → cost_at (set left x z) a ≡ cost_at left a
      other a d = get_or-set_other left x a z (pos 0) d

      kept : (a : ℕ) → (a ≡ x → ⊥) → at timed a ≡ at later a
      kept a d = elim how [ inl h ↦ ap (λ t. at t a) h.0 | inr h ↦ ap (λ t. at t a) h.0 ∙ get_or-set_other later x a next 0 d ]

      here : (a : ℕ) → a ≡ x → is_member a (take (i + 1) items) ≡ true
      here a same = is_member-take_more items i a l ∙ or_right (is_member a (take i items)) _ (eq-eqb a x same)

      there : (a : ℕ) → (a ≡ x → ⊥) → is_member a (take (i + 1) items) ≡ is_member a (take i items)
      there a d = is_member-take_more items i a l ∙ none (is_member a (take i items)) _ (ne_eqb a x d)
        where
          none : (b c : Bool) → c ≡ false → (b || c) ≡ b
          none true c e = refl
          none false c e = e

      unchanged : x < count → at later x ≡ at since x
      unchanged lx = elim (w.later_is x lx) [
        | inl h ↦ h.0
        | inr h ↦ absurd (both_ways _ (is_member-take_next items i rising l) h.1.0)
      ]

-- ---- whether an arc comes

comes-values : (h t last : ℕ) → h ≡ last → (t ≡ last → ⊥) → (eqb h last && not (eqb t last)) ≡ true
comes-values h t last e n = and_from _ _ (eq-eqb h last e) (ap not (ne_eqb t last n))

module _ (arcs : List (ℕ × ℕ)) (place : List ℕ) (last a : ℕ) where
  pub comes-yes : at place (ends_of arcs a).1 ≡ last → (at place (ends_of arcs a).0 ≡ last → ⊥) → comes (ends_of arcs) place last a ≡ true
  comes-yes e n = comes-values _ _ last e n

  pub comes-no : ((at place (ends_of arcs a).1 ≡ last → ⊥) ⊎ (at place (ends_of arcs a).0 ≡ last))
      → comes (ends_of arcs) place last a ≡ false
  comes-no (inl n) = and_left _ _ (ne_eqb _ last n)
  comes-no (inr e) = and_not_none _ _ (eq-eqb _ last e)

  pub comes-parts : comes (ends_of arcs) place last a ≡ true
      → (at place (ends_of arcs a).1 ≡ last) × (at place (ends_of arcs a).0 ≡ last → ⊥)
  comes-parts h = (let p = and_parts (eqb (at place (ends_of arcs a).1) last) (not (eqb (at place (ends_of arcs a).0) last)) h in
      (eqb-true _ last p.0, λ e. both_ways _ (ap not (eq-eqb _ last e)) p.1))

-- the places at the start
pub places-start : (vertices root : ℕ) (items : List ℕ) → items ≡ replicate vertices never → root < vertices
    → (length (set items root 0) ≡ vertices) × ((at (set items root 0) root ≡ 0)
    × ((v : ℕ) → v < vertices → v ≢ root → at (set items root 0) v ≡ never))
places-start vertices root items e l = (
  length-set items root 0 ∙ ap length e ∙ length-replicate vertices never,
  (
    get_or-set_same items root 0 0 (let k = ap length e ∙ length-replicate vertices never in omega arith),
    λ v lv d. get_or-set_other items root v 0 0 d ∙ ap (λ i. at i v) e ∙ get_or-replicate vertices v never 0 lv,
  ),
)

-- ---- the arc that is spent

-- the least arc of the list of those that come
pub IsLeast-of : (count : ℕ) (test : ℕ → Bool) (among : List ℕ) (reduced : List ℤ) (a : ℕ) → among ≡ those_below count test
    → IsLeastOf among reduced a → IsLeast count test reduced a
IsLeast-of count test among reduced a those f = record {
  below = below_member (those-set count test among those) f.member;
  passes = those-passes count test among those a f.member;
  least = λ b l passes. f.least b (those-is count test among those b l ∙ passes);
}

pub IsPaid-same : (test other : ℕ → Bool) (place : List ℕ) (last a : ℕ) (before after : Raised)
    → ((b : ℕ) → b < length before.reduced.items → test b ≡ other b) → IsPaid test place last a before after
    → IsPaid other place last a before after
IsPaid-same test other place last a before after same (inl h) = inl h
IsPaid-same test other place last a before after same (inr h) = inr (
  h.0,
  record {
    cut = h.1.cut;
    weight_is = h.1.weight_is;
    set_is = h.1.set_is;
    cuts = h.1.cuts;
    lowered = IsLowered-same (length before.reduced.items) (cost_at before.reduced.items a) (suc (length before.cuts.items)) before.reduced.items before.since.items
        test other after.reduced.items after.since.items same h.1.lowered;
  },
)
