-- What is kept while a reached set grows from its root. Each member is reached by tight arcs inside the set; the second weights of its members
-- differ little from that of the root in both numbers, and what is outside has its second weight from the start. Once a member is a sink, or
-- nothing outside can enter and no member can be added, the halves of the weights have grown.
use Rattle.mat_exchange.proofs.Common.{◌≡◌, ℕ, ◌+◌, ◌*◌, ◌^◌, ◌<◌, Bool, true, false, ◌&&◌, not, eqb, ltb, List, [], length, ℤ, pos, ◌+ℤ◌, ◌≤ℤ◌, inl, inr, refl, sym, ap, ◌∙◌, subst, arith, cases_Bool, both_ways, and_parts, and_from, not-true, lt-ltb, ltb-true, false≢true, ints, is_member, IsSet}
use Rattle.mat_exchange.proofs.Common.{with_one, IsReachedSet, IsRising-nil, is_member-with_one, length-with_one, below_member, IsSet-with_one, IsSet-nil, reached_by_induction, ◌⊕◌, ◌⊖◌, IsWeightWithin, Weight, pairs, or_none, Exchanges, is_heaviest_addable, is_tight, IsStuckReach, IsSlack}
use Rattle.mat_exchange.proofs.Common.{NoExchangeGains, EndsSearch, IsGrownSplit, IsEntry, IsHeaviestOf, sum_at, IsAdditionSlack, IsHeaviestAddable, heaviest_addable_gives, heaviest_addable_from}
use Rattle.mat_laws.specs.Slacks.IsSlack.{first_addition, first_exchange, second_exchange, second_addition}
use Rattle.mat_exchange.specs.Growing.IsEntry.{as_source, from_member, from_other}
use Rattle.mat_exchange.proofs.WeightChanges.{tight_cases}
use Rattle.mat_exchange.proofs.NewMembers.{new_member, new_or_kept}

-- exchanges at a set I on n elements: only elements outside are exchanged, and only for members
pub record AreExchangesOn (n : ℕ) (I : List ℕ) (a : Exchanges) : Type 0 where
  pub member : (y x : ℕ) → a.trades y x ≡ true → is_member y I ≡ true
  pub outside : (y x : ℕ) → a.trades y x ≡ true → is_member x I ≡ false
  pub member_below : (y x : ℕ) → a.trades y x ≡ true → y < n
  pub below : (y x : ℕ) → a.trades y x ≡ true → x < n
  pub adds_below : (x : ℕ) → a.adds x ≡ true → x < n

-- ---- the reached set

-- what holds of the starts in R and goes along arcs inside R holds of all of R
pub record IsSpanned (arc : ℕ → ℕ → Bool) (start : ℕ → Bool) (R : List ℕ) : Type 0 where
  pub induct : (f : ℕ → Bool) → ((v : ℕ) → is_member v R ≡ true → start v ≡ true → f v ≡ true)
      → ((u v : ℕ) → is_member u R ≡ true → is_member v R ≡ true → f u ≡ true → arc u v ≡ true → f v ≡ true)
      → (v : ℕ) → is_member v R ≡ true → f v ≡ true

-- so every reached set holds R
pub spanned_reached : {n : ℕ} {arc : ℕ → ℕ → Bool} {start : ℕ → Bool} {R : List ℕ} (S : List ℕ) → IsSet n R → IsSpanned arc start R
    → IsReachedSet n arc start S → (v : ℕ) → is_member v R ≡ true → is_member v S ≡ true
spanned_reached {n} {arc} {start} {R} S set spanned reached =
    spanned.induct (λ v. is_member v S)
    (λ v vr s. reached.starts v (below_member set vr) s)
    (λ u v ur vr us k. reached.closed u v us (below_member set vr) k)

-- a and b differ by at most 2 * 10^12 * (r - 1)
abbrev pub AreNear : ℕ → ℤ → ℤ → Type 0
AreNear r a b = ((a +ℤ pos (2 * 10 ^ 12)) ≤ℤ (b +ℤ pos (2 * 10 ^ 12 * r))) × ((b +ℤ pos (2 * 10 ^ 12)) ≤ℤ (a +ℤ pos (2 * 10 ^ 12 * r)))

-- and so do both numbers of two weights
abbrev pub IsNear : ℕ → Weight → Weight → Type 0
IsNear r a b = AreNear r a.main b.main × AreNear r a.tie b.tie

-- what is kept while R grows from the root, and O is what is outside
pub record IsGrowing (n : ℕ) (a b : Exchanges) (w old : ℕ → Weight) (root : ℕ) (R O : List ℕ) (w1 w2 : ℕ → Weight) : Type 0 where
  pub set : IsSet n R
  pub others : (x : ℕ) → is_member x O ≡ (ltb x n && not (is_member x R))
  pub root_in : is_member root R ≡ true
  pub root_top : IsHeaviestAddable n a w1 root
  pub spanned : IsSpanned (is_tight a b w1 w2) (is_heaviest_addable n a w1) R
  pub first_gains : NoExchangeGains a w1
  pub second_gains : NoExchangeGains b w2
  pub adds : (x : ℕ) → x < n → w1 x ⊕ w2 x ≡ w x
  pub stays : (x : ℕ) → is_member x R ≡ false → w2 x ≡ old x
  pub near : (v : ℕ) → is_member v R ≡ true → IsNear (length R) (w2 v) (w2 root)
  pub within : (h : ℕ) → ((x : ℕ) → x < n → IsWeightWithin h (old x)) → (x : ℕ) → x < n → IsWeightWithin (h + 4 * 10 ^ 12 * n) (w2 x)

module _ {n : ℕ} {a b : Exchanges} {w old : ℕ → Weight} {root : ℕ} {R O : List ℕ} {w1 w2 : ℕ → Weight}
    (now : IsGrowing n a b w old root R O w1 w2) where
  pub root_below : root < n
  root_below = below_member now.set now.root_in

  pub root_heaviest : ((x : ℕ) → a.adds x ≡ true → x < n) → IsHeaviestOf a.adds w1 root
  root_heaviest below = record { passes = now.root_top.adds; most = λ y k. now.root_top.most y (below y k) k }

  pub in_others : (x : ℕ) → x < n → is_member x R ≡ false → is_member x O ≡ true
  in_others x l out = now.others x ∙ and_from (ltb x n) (not (is_member x R)) (lt-ltb x n l) (ap not out)

  pub others_below : (x : ℕ) → is_member x O ≡ true → x < n
  others_below x m = ltb-true x n (and_parts (ltb x n) (not (is_member x R)) (sym (now.others x) ∙ m)).0

  pub others_outside : (x : ℕ) → is_member x O ≡ true → is_member x R ≡ false
  others_outside x m = not-true (is_member x R) (and_parts (ltb x n) (not (is_member x R)) (sym (now.others x) ∙ m)).1

-- ---- the start

near_same : (a : Weight) → IsNear 1 a a
near_same a = omega (arith, ints)

still_within : (a b : Weight) (h n : ℕ) → a ≡ b → IsWeightWithin h b → IsWeightWithin (h + 4 * 10 ^ 12 * n) a
still_within a b h n e le = omega (arith, ints, pairs)

is_root : (root v : ℕ) → is_member v (with_one [] root) ≡ true → v ≡ root
is_root root v m = elim (new_or_kept root v [] m) [ inl e ↦ e | inr k ↦ absurd (false≢true k) ]

root_length : (root : ℕ) → length (with_one [] root) ≡ 1
root_length root = length-with_one [] root IsRising-nil refl

module _ {n : ℕ} {a b : Exchanges} {w old : ℕ → Weight} {root : ℕ} {O : List ℕ} {w1 w2 : ℕ → Weight}
    (top : IsHeaviestAddable n a w1 root) (root_below : root < n) (first_gains : NoExchangeGains a w1) (second_gains : NoExchangeGains b w2)
    (adds : (x : ℕ) → x < n → w1 x ⊕ w2 x ≡ w x) (same : (x : ℕ) → w2 x ≡ old x)
    (others : (x : ℕ) → is_member x O ≡ (ltb x n && not (eqb x root))) where
  pub growing_start : IsGrowing n a b w old root (with_one [] root) O w1 w2
  growing_start = record {
    set = IsSet-with_one n [] root (IsSet-nil n) root_below;
    others = λ x. others x ∙ ap (λ t. ltb x n && not t) (sym (or_none (eqb x root)) ∙ sym (is_member-with_one x root []));
    root_in = new_member root root [] refl;
    root_top = top;
    spanned = record {
      induct = λ f starts steps v m. subst (λ z. f z ≡ true) (sym (is_root root v m)) (starts root
          (subst (λ z. is_member z (with_one [] root) ≡ true) (is_root root v m) m)
          (heaviest_addable_from n a w1 root top.adds top.most));
    };
    first_gains = first_gains;
    second_gains = second_gains;
    adds = adds;
    stays = λ x out. same x;
    near = λ v m. rw (root_length root, is_root root v m) (near_same (w2 root));
    within = λ h olds x l. still_within (w2 x) (old x) h n (same x) (olds x l);
  }

-- ---- the end

module _ {n : ℕ} {a b : Exchanges} {w old : ℕ → Weight} {root : ℕ} {R O : List ℕ} {w1 w2 : ℕ → Weight}
    (now : IsGrowing n a b w old root R O w1 w2) where
  grown_split : EndsSearch n a b w1 w2 → IsGrownSplit n a b w old w1 w2
  grown_split ends = record {
    first_gains = now.first_gains;
    second_gains = now.second_gains;
    adds = now.adds;
    within = now.within;
    ends = ends;
  }

  -- R holds a sink
  pub grown_by_sink : (v : ℕ) → is_member v R ≡ true → is_heaviest_addable n b w2 v ≡ true → IsGrownSplit n a b w old w1 w2
  grown_by_sink v m goal = grown_split (λ S stuck d slack.
      both_ways _ (stuck.no_sink v (spanned_reached S now.set now.spanned stuck.reached v m)) goal)

  -- nothing enters R, and R has nothing that can be added in the second
  module _ (none : (x : ℕ) (e : Weight) → is_member x O ≡ true → IsEntry a b w1 w2 root R x e → ⊥)
      (no_sink : (d : Weight) → IsAdditionSlack n b w2 R d → ⊥) where
    no_entry : (x : ℕ) → x < n → is_member x R ≡ false → (e : Weight) → IsEntry a b w1 w2 root R x e → ⊥
    no_entry x l out e entry = none x e (in_others now x l out) entry

    module _ (S : List ℕ) (stuck : IsStuckReach n a b w1 w2 S) where
      -- what is reached is R
      outside_both : (x : ℕ) → is_member x S ≡ false → is_member x R ≡ false
      outside_both x out = elim (cases_Bool (is_member x R)) [
        | inl k ↦ absurd (both_ways _ out (spanned_reached S now.set now.spanned stuck.reached x k))
        | inr k ↦ k
      ]

      inside_both : (x : ℕ) → is_member x S ≡ true → is_member x R ≡ true
      inside_both = reached_by_induction S (λ v. is_member v R) stuck.reached
          (λ v l s. elim (cases_Bool (is_member v R)) [
            | inl k ↦ k
            | inr out ↦ absurd (no_entry v l out (w1 v ⊖ w1 root) (as_source (heaviest_addable_gives n a w1 v s).adds refl))
          ])
          (λ u v us l ur k. elim (cases_Bool (is_member v R)) [
            | inl m ↦ m
            | inr out ↦ elim (tight_cases a b w1 w2 u v k) [
              | inl s ↦ absurd (no_entry v l out (w1 v ⊖ w1 u) (from_member u ur s.0 refl))
              | inr s ↦ absurd (no_entry v l out (w2 u ⊖ w2 v) (from_other u ur s.0 refl))
            ]
          ])

      no_slack : (d : Weight) → IsSlack n a b w1 w2 S d → ⊥
      no_slack d (first_addition top x lt lx t k out e) =
          no_entry x lx (outside_both x out) (w1 x ⊖ w1 root) (as_source k refl)
      no_slack d (first_exchange y x ly lx t m out e) =
          no_entry x lx (outside_both x out) (w1 x ⊖ w1 y) (from_member y (inside_both y m) t refl)
      no_slack d (second_exchange x y lx ly t m out e) =
          no_entry y ly (outside_both y out) (w2 x ⊖ w2 y) (from_other x (inside_both x m) t refl)
      no_slack d (second_addition top x lt lx t k m e) =
          no_sink d (record { top = top; element = x; below = lt; heaviest = t; adds = k; inside = inside_both x m; value = e })

    pub grown_without_slack : IsGrownSplit n a b w old w1 w2
    grown_without_slack = grown_split (λ S stuck d slack. no_slack S stuck d slack)

-- an element is a source and a sink: no search is stuck
pub ends_at_sink : {n : ℕ} {a b : Exchanges} {w1 w2 : ℕ → Weight} (x : ℕ) → x < n → is_heaviest_addable n a w1 x ≡ true
    → is_heaviest_addable n b w2 x ≡ true → EndsSearch n a b w1 w2
ends_at_sink x l source sink S stuck d slack = both_ways _ (stuck.no_sink x (stuck.reached.starts x l source)) sink

-- ---- no change

-- where a search has no slack, nothing changes
pub grown_unchanged : (n : ℕ) (a b : Exchanges) (u1 u2 : ℕ → Weight) → EndsSearch n a b u1 u2 → NoExchangeGains a u1 → NoExchangeGains b u2
    → IsGrownSplit n a b (sum_at u1 u2) u2 u1 u2
grown_unchanged n a b u1 u2 ends gains1 gains2 = record {
  first_gains = gains1;
  second_gains = gains2;
  adds = λ x l. refl;
  within = λ h olds x l. still_within (u2 x) (u2 x) h n refl (olds x l);
  ends = ends;
}

-- where nothing can be added in the first, no search has a slack
pub ends_without_source : {n : ℕ} {a b : Exchanges} {w1 w2 : ℕ → Weight} → ((x : ℕ) → a.adds x ≡ false) → EndsSearch n a b w1 w2
ends_without_source {n} {a} {b} {w1} {w2} none S stuck d slack = no slack
  where
    empty : (v : ℕ) → is_member v S ≡ true → ⊥
    empty v m = false≢true (reached_by_induction S (λ u. false) stuck.reached
        (λ u l s. absurd (both_ways _ (none u) (heaviest_addable_gives n a w1 u s).adds))
        (λ u z us l f k. f) v m)

    no : IsSlack n a b w1 w2 S d → ⊥
    no (first_addition top x lt lx t k out e) = both_ways _ (none x) k
    no (first_exchange y x ly lx t m out e) = empty y m
    no (second_exchange x y lx ly t m out e) = empty x m
    no (second_addition top x lt lx t k m e) = empty x m
