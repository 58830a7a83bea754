-- A change of the weights of a reached set: the first fall by d, and the second rise. Where nothing outside enters before, and some member gets level
-- with an element outside, all that is kept of the set is kept, since the second weights of its members are near one another; and the gains of
-- what is outside rise by d.
use Rattle.mat_exchange.proofs.Common.{◌≡◌, ℕ, ◌+◌, ◌*◌, ◌^◌, ◌<◌, ◌≤◌, true, false, List, length, inl, inr, refl, sym, ◌∙◌, arith, cases_Bool, ints, largest_weight, is_member, below_member, IsSet-length, zero_weight, ◌⊕◌, ◌⊖◌, ◌≺◌, ◌≼◌, IsWeightWithin, Weight, pairs, by_below, Exchanges}
use Rattle.mat_exchange.proofs.Common.{is_heaviest_addable, is_tight, lowered, raised, NoExchangeGains, IsEntry, IsFringe, IsAdditionSlack, IsLeast, IsHeaviestAddable, heaviest_addable_gives, heaviest_addable_from}
use mathlib.Core.Path.{fun_ext}
use Rattle.mat_exchange.specs.Growing.IsEntry.{as_source, from_member, from_other}
use Rattle.mat_exchange.proofs.WeightChanges.{lowered-member, lowered-outside, raised-member, raised-outside, lowered-keeps, raised-keeps}
use Rattle.mat_exchange.proofs.WeightChanges.{changed_adds, tight_stays}
use Rattle.mat_exchange.proofs.Raising.{lowered_zero, raised_zero}
use Rattle.mat_exchange.proofs.Growing.{AreExchangesOn, IsSpanned, IsNear, IsGrowing, root_below, in_others, others_below, others_outside}

-- nothing outside enters before d
abbrev pub EntersLate : ℕ → Exchanges → Exchanges → (ℕ → Weight) → (ℕ → Weight) → ℕ → List ℕ → Weight → Type 0
EntersLate n a b w1 w2 root R d =
    (x : ℕ) → x < n → is_member x R ≡ false → (e : Weight) → IsEntry a b w1 w2 root R x e → (e ⊕ d) ≼ zero_weight

-- after a change by d some member of R is level with an element outside, in the second weight or in the first
pub record IsLevelled (n : ℕ) (old : ℕ → Weight) (R : List ℕ) (w2 : ℕ → Weight) (d : Weight) : Type 0 where
  pub element : ℕ
  pub inside : is_member element R ≡ true
  pub level : (h : ℕ) → ((x : ℕ) → x < n → IsWeightWithin h (old x)) → IsWeightWithin (h + 2 * 10 ^ 12) (w2 element ⊕ d)

-- ---- weights that are near one another

near_shifted : (r : ℕ) (a b d : Weight) → IsNear r a b → IsNear r (a ⊕ d) (b ⊕ d)
near_shifted r a b d near = omega (arith, ints)

-- u gets level with x in the first weight, and x is within h in the second
first_levels : (u1 x1 u2 x2 wu wx d : Weight) (h : ℕ) → u1 ⊕ u2 ≡ wu → x1 ⊕ x2 ≡ wx → IsWeightWithin largest_weight wu
    → IsWeightWithin largest_weight wx → IsWeightWithin h x2 → (x1 ⊖ u1) ⊕ d ≡ zero_weight → IsWeightWithin (h + 2 * 10 ^ 12) (u2 ⊕ d)
first_levels u1 x1 u2 x2 wu wx d h eu ex ru rx le e = omega (arith, ints, pairs)

-- and in the second
second_levels : (u x d : Weight) (h : ℕ) → IsWeightWithin h x → d ≡ x ⊖ u → IsWeightWithin (h + 2 * 10 ^ 12) (u ⊕ d)
second_levels u x d h le e = omega (arith, ints, pairs)

-- where all of R is near the root, and one of R is level with an element outside, all of R is within bounds
all_within : (v u root d : Weight) (h r n : ℕ) → r ≤ n → IsNear r v root → IsNear r u root → IsWeightWithin (h + 2 * 10 ^ 12) (u ⊕ d)
    → IsWeightWithin (h + 4 * 10 ^ 12 * n) (v ⊕ d)
all_within v u root d h r n le near_v near_u level = omega (arith, ints)

-- ---- what is kept

module _ {n : ℕ} {I : List ℕ} {a b : Exchanges} {w old : ℕ → Weight} {root : ℕ} {R O : List ℕ} {w1 w2 : ℕ → Weight}
    (on_a : AreExchangesOn n I a) (on_b : AreExchangesOn n I b) (now : IsGrowing n a b w old root R O w1 w2) where
  module _ (d : Weight) (plus : zero_weight ≺ d) (later : EntersLate n a b w1 w2 root R d) where
    first_stays : NoExchangeGains a (lowered w1 R d)
    first_stays = record {
      each = λ y x t. lowered-keeps w1 R d x y plus (now.first_gains.each y x t) (λ yr xr.
          let late = later x (on_a.below y x t) xr (w1 x ⊖ w1 y) (from_member y yr t refl) in omega (arith, ints, pairs));
    }

    second_stays : NoExchangeGains b (raised w2 R d)
    second_stays = record {
      each = λ y x t. raised-keeps w2 R d x y plus (now.second_gains.each y x t) (λ xr yr.
          let late = later y (on_b.member_below y x t) yr (w2 x ⊖ w2 y) (from_other x xr t refl) in omega (arith, ints, pairs));
    }

    root_stays : IsHeaviestAddable n a (lowered w1 R d) root
    root_stays = record {
      adds = now.root_top.adds;
      most = λ e l k. lowered-keeps w1 R d e root plus (now.root_top.most e l k) (λ rr er.
          let late = later e l er (w1 e ⊖ w1 root) (as_source k refl) in omega (arith, ints, pairs));
    }

    start_stays : (v : ℕ) → is_member v R ≡ true → is_heaviest_addable n a w1 v ≡ true → is_heaviest_addable n a (lowered w1 R d) v ≡ true
    start_stays v vr s =
        let t = heaviest_addable_gives n a w1 v s in
        let le = t.most root (root_below now) now.root_top.adds in
        let up : lowered w1 R d root ≼ lowered w1 R d v =
        rw (lowered-member w1 R d root now.root_in, lowered-member w1 R d v vr) (omega (arith, ints, pairs)) in
        heaviest_addable_from n a (lowered w1 R d) v t.adds (λ e l k. let m = root_stays.most e l k in omega (arith, ints, pairs))

    spanned_stays : IsSpanned (is_tight a b (lowered w1 R d) (raised w2 R d)) (is_heaviest_addable n a (lowered w1 R d)) R
    spanned_stays = record {
      induct = λ f starts steps. now.spanned.induct f
          (λ v vr s. starts v vr (start_stays v vr s))
          (λ u v ur vr fu k. steps u v ur vr fu (tight_stays a b w1 w2 R d u v ur vr k));
    }

    -- the change, where some member of R gets level
    pub growing_changed : IsLevelled n old R w2 d → IsGrowing n a b w old root R O (lowered w1 R d) (raised w2 R d)
    growing_changed level = record {
      set = now.set;
      others = now.others;
      root_in = now.root_in;
      root_top = root_stays;
      spanned = spanned_stays;
      first_gains = first_stays;
      second_gains = second_stays;
      adds = λ x l. changed_adds w1 w2 R d x ∙ now.adds x l;
      stays = λ x out. raised-outside w2 R d x out ∙ now.stays x out;
      near = λ v vr. rw (raised-member w2 R d v vr, raised-member w2 R d root now.root_in)
          (near_shifted (length R) (w2 v) (w2 root) d (now.near v vr));
      within = λ h olds x l. elim (cases_Bool (is_member x R)) [
        | inl k ↦ rw (raised-member w2 R d x k)
            (all_within (w2 x) (w2 level.element) (w2 root) d h (length R) n (IsSet-length n R now.set) (now.near x k)
            (now.near level.element level.inside) (level.level h olds))
        | inr k ↦ rw (raised-outside w2 R d x k) (now.within h olds x l)
      ];
    }

  -- a change by at least 0
  pub growing_by : (d : Weight) → zero_weight ≼ d → EntersLate n a b w1 w2 root R d → (zero_weight ≺ d → IsLevelled n old R w2 d)
      → IsGrowing n a b w old root R O (lowered w1 R d) (raised w2 R d)
  growing_by d low later level = by_below zero_weight d
      (λ plus. growing_changed d plus later (level plus))
      (λ le. (let zero : d ≡ zero_weight = omega (arith, ints, pairs) in
      let first : lowered w1 R d ≡ w1 = fun_ext (λ x. sym (lowered_zero w1 R d x zero)) in
      let second : raised w2 R d ≡ w2 = fun_ext (λ x. sym (raised_zero w2 R d x zero)) in
      rw (first, second) now))

-- ---- the gains of what is outside

module _ {n : ℕ} {a b : Exchanges} {w old : ℕ → Weight} {root : ℕ} {R O : List ℕ} {w1 w2 : ℕ → Weight}
    (now : IsGrowing n a b w old root R O w1 w2) where
  -- a gain is at most 0
  pub entry_not_above : (x : ℕ) (e : Weight) → x < n → IsEntry a b w1 w2 root R x e → e ≼ zero_weight
  entry_not_above x e l (as_source k v) = let le = now.root_top.most x l k in omega (arith, ints, pairs)
  entry_not_above x e l (from_member y yr k v) = let le = now.first_gains.each y x k in omega (arith, ints, pairs)
  entry_not_above x e l (from_other u ur k v) = let le = now.second_gains.each x u k in omega (arith, ints, pairs)

  pub enters_late : {F : List ℕ} {g : ℕ → Weight} → IsFringe O F (IsEntry a b w1 w2 root R) g → (d : Weight)
      → ((x : ℕ) → is_member x F ≡ true → (g x ⊕ d) ≼ zero_weight) → EntersLate n a b w1 w2 root R d
  enters_late fringe d least x l out e entry =
      let m = fringe.most x e (in_others now x l out) entry in
      let le = least x m.0 in
      let h = m.1 in
      omega (arith, ints, pairs)

  -- the gains of what is outside rise by d
  module _ (d : Weight) where
    pub entry_shifts : (x : ℕ) (e : Weight) → is_member x R ≡ false → IsEntry a b w1 w2 root R x e
        → IsEntry a b (lowered w1 R d) (raised w2 R d) root R x (e ⊕ d)
    entry_shifts x e out (as_source k v) =
        as_source k (rw (lowered-outside w1 R d x out, lowered-member w1 R d root now.root_in) (omega (arith, ints, pairs)))
    entry_shifts x e out (from_member y yr k v) =
        from_member y yr k (rw (lowered-outside w1 R d x out, lowered-member w1 R d y yr) (omega (arith, ints, pairs)))
    entry_shifts x e out (from_other u ur k v) =
        from_other u ur k (rw (raised-outside w2 R d x out, raised-member w2 R d u ur) (omega (arith, ints, pairs)))

    entry_shifts_back : (x : ℕ) (e : Weight) → is_member x R ≡ false → IsEntry a b (lowered w1 R d) (raised w2 R d) root R x e
        → IsEntry a b w1 w2 root R x (e ⊖ d)
    entry_shifts_back x e out (as_source k v) =
        as_source k (let v' = rw (lowered-outside w1 R d x out, lowered-member w1 R d root now.root_in) at v in omega (arith, ints, pairs))
    entry_shifts_back x e out (from_member y yr k v) =
        from_member y yr k (let v' = rw (lowered-outside w1 R d x out, lowered-member w1 R d y yr) at v in omega (arith, ints, pairs))
    entry_shifts_back x e out (from_other u ur k v) =
        from_other u ur k (let v' = rw (raised-outside w2 R d x out, raised-member w2 R d u ur) at v in omega (arith, ints, pairs))

    pub fringe_changed : {F : List ℕ} {g : ℕ → Weight} → IsFringe O F (IsEntry a b w1 w2 root R) g
        → IsFringe O F (IsEntry a b (lowered w1 R d) (raised w2 R d) root R) (raised g F d)
    fringe_changed {F} {g} fringe = record {
      within = fringe.within;
      has = λ x m. rw (raised-member g F d x m) (entry_shifts x (g x) (others_outside now x (fringe.within x m)) (fringe.has x m));
      most = λ x e xo entry. (let m = fringe.most x (e ⊖ d) xo (entry_shifts_back x e (others_outside now x xo) entry) in
          let le = m.1 in (m.0, rw (raised-member g F d x m.0) (omega (arith, ints, pairs))));
    }

-- ---- what gets level

module _ {n : ℕ} {a b : Exchanges} {w old : ℕ → Weight} {root : ℕ} {R O : List ℕ} {w1 w2 : ℕ → Weight}
    (small : (x : ℕ) → x < n → IsWeightWithin largest_weight (w x)) (now : IsGrowing n a b w old root R O w1 w2) where
  level_in_first : (x u : ℕ) (d : Weight) → is_member x O ≡ true → is_member u R ≡ true → (w1 x ⊖ w1 u) ⊕ d ≡ zero_weight
      → (h : ℕ) → ((z : ℕ) → z < n → IsWeightWithin h (old z)) → IsWeightWithin (h + 2 * 10 ^ 12) (w2 u ⊕ d)
  level_in_first x u d xo ur e h olds =
      let l = others_below now x xo in
      let lu = below_member now.set ur in
      first_levels (w1 u) (w1 x) (w2 u) (w2 x) (w u) (w x) d h (now.adds u lu) (now.adds x l) (small u lu) (small x l)
      (rw (now.stays x (others_outside now x xo)) (olds x l)) e

  level_in_second : (x u : ℕ) (d : Weight) → x < n → is_member x R ≡ false → d ≡ w2 x ⊖ w2 u
      → (h : ℕ) → ((z : ℕ) → z < n → IsWeightWithin h (old z)) → IsWeightWithin (h + 2 * 10 ^ 12) (w2 u ⊕ d)
  level_in_second x u d l out e h olds = second_levels (w2 u) (w2 x) d h (rw (now.stays x out) (olds x l)) e

  -- the least entry
  pub levelled_by_entry : (x : ℕ) (e d : Weight) → is_member x O ≡ true → IsEntry a b w1 w2 root R x e → e ⊕ d ≡ zero_weight
      → IsLevelled n old R w2 d
  levelled_by_entry x e d xo (as_source k v) s = record {
    element = root;
    inside = now.root_in;
    level = level_in_first x root d xo now.root_in (omega (arith, ints, pairs));
  }
  levelled_by_entry x e d xo (from_member y yr k v) s = record {
    element = y;
    inside = yr;
    level = level_in_first x y d xo yr (omega (arith, ints, pairs));
  }
  levelled_by_entry x e d xo (from_other u ur k v) s = record {
    element = u;
    inside = ur;
    level = level_in_second x u d (others_below now x xo) (others_outside now x xo) (omega (arith, ints, pairs));
  }

  -- the least slack of a sink, where it is above 0
  pub levelled_by_sink : (d : Weight) → zero_weight ≺ d → IsLeast (IsAdditionSlack n b w2 R) d → IsLevelled n old R w2 d
  levelled_by_sink d plus slack = let s = slack.has in elim (cases_Bool (is_member s.top R)) [
    | inl tr ↦ absurd (let t = heaviest_addable_gives n b w2 s.top s.heaviest in
        let le = slack.least (w2 s.top ⊖ w2 s.top) (record { top = s.top; element = s.top; below = s.below; heaviest = s.heaviest; adds = t.adds; inside = tr; value = refl }) in
        omega (arith, ints, pairs))
    | inr out ↦ record {
      element = s.element;
      inside = s.inside;
      level = level_in_second s.top s.element d s.below out s.value;
    }
  ]

-- ---- a sink

-- after a change by the least slack of a sink R holds one
pub sink_by_slack : {n : ℕ} {b : Exchanges} {w2 : ℕ → Weight} {R : List ℕ} (d : Weight) → ((x : ℕ) → b.adds x ≡ true → x < n)
    → IsLeast (IsAdditionSlack n b w2 R) d
    → (v : ℕ) × (is_member v R ≡ true) × (is_heaviest_addable n b (raised w2 R d) v ≡ true)
sink_by_slack {n} {b} {w2} {R} d below slack = let s = slack.has in (
  s.element,
  s.inside,
  heaviest_addable_from n b (raised w2 R d) s.element s.adds (λ e l k. elim (cases_Bool (is_member e R)) [
    | inl er ↦ (let le = slack.least (w2 s.top ⊖ w2 e) (record { top = s.top; element = e; below = s.below; heaviest = s.heaviest; adds = k; inside = er; value = refl }) in
        let v = s.value in
        rw (raised-member w2 R d e er, raised-member w2 R d s.element s.inside) (omega (arith, ints, pairs)))
    | inr out ↦ (let t = (heaviest_addable_gives n b w2 s.top s.heaviest).most e l k in let v = s.value in
        rw (raised-outside w2 R d e out, raised-member w2 R d s.element s.inside) (omega (arith, ints, pairs)))
  ]),
)
