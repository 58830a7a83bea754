-- An element enters a reached set. It is a source, or a tight arc leads to it from a member, so that its second weight is close to that of a member;
-- and what is still outside can enter by it too.
use Rattle.mat_exchange.proofs.Common.{◌≡◌, ℕ, suc, ◌*◌, ◌^◌, ◌<◌, Bool, true, false, ◌&&◌, not, eqb, ltb, List, [], length, ◌⊎◌, inl, inr, refl, sym, ap, ◌∙◌, subst, arith, cases_Bool, both_ways, and_parts, and_from, cond-true, cond-false, false≢true, ints, largest_weight, is_member, with_one}
use Rattle.mat_exchange.proofs.Common.{without_one, is_member-with_one, is_member-without_one, length-with_one, below_member, IsSet-with_one, zero_weight, ◌⊕◌, ◌⊖◌, ◌≼◌, IsWeightWithin, Weight, pairs, at_most_same, Exchanges, is_heaviest_addable, is_tight, IsEntry, IsFringe, IsOffered, leads}
use Rattle.mat_exchange.proofs.Common.{entry_gain, heaviest_addable_from, and_neither, or_commute}
use Rattle.mat_exchange.specs.Growing.IsEntry.{as_source, from_member, from_other}
use Rattle.mat_exchange.proofs.Fringes.{fringe_offered}
use Rattle.mat_exchange.proofs.WeightChanges.{tight_by_first, tight_by_second}
use Rattle.mat_exchange.proofs.NewMembers.{kept_member, new_member, new_or_kept}
use Rattle.mat_exchange.proofs.Growing.{AreExchangesOn, IsNear, IsGrowing, others_below, others_outside}

-- ---- weights that are close

-- both numbers differ by at most 2 * 10^12
abbrev pub IsClose : Weight → Weight → Type 0
IsClose a b = IsWeightWithin (2 * 10 ^ 12) (a ⊖ b)

near_wider : (r : ℕ) (a b : Weight) → IsNear r a b → IsNear (suc r) a b
near_wider r a b near = omega (arith, ints)

near_more : (r : ℕ) (a b c : Weight) → IsClose a b → IsNear r b c → IsNear (suc r) a c
near_more r a b c close near = omega (arith, ints)

-- two elements of one first weight are close in the second
first_close : (a1 b1 a2 b2 wa wb : Weight) → a1 ⊕ a2 ≡ wa → b1 ⊕ b2 ≡ wb → IsWeightWithin largest_weight wa → IsWeightWithin largest_weight wb
    → a1 ≡ b1 → IsClose a2 b2
first_close a1 b1 a2 b2 wa wb ea eb ra rb same = omega (arith, ints, pairs)

second_close : (a b : Weight) → a ≡ b → IsClose a b
second_close a b same = omega (arith, ints, pairs)

-- ---- one element more

module _ {n : ℕ} {a b : Exchanges} {w old : ℕ → Weight} {root : ℕ} {R O : List ℕ} {w1 w2 : ℕ → Weight}
    (small : (x : ℕ) → x < n → IsWeightWithin largest_weight (w x)) (now : IsGrowing n a b w old root R O w1 w2) (x : ℕ)
    (x_other : is_member x O ≡ true) (x_entry : IsEntry a b w1 w2 root R x zero_weight) where
  -- x is a source, or a tight arc leads to it from R
  x_reached : (f : ℕ → Bool) → ((v : ℕ) → is_member v (with_one R x) ≡ true → is_heaviest_addable n a w1 v ≡ true → f v ≡ true)
      → ((u v : ℕ) → is_member u (with_one R x) ≡ true → is_member v (with_one R x) ≡ true → f u ≡ true → is_tight a b w1 w2 u v ≡ true → f v ≡ true)
      → ((v : ℕ) → is_member v R ≡ true → f v ≡ true) → IsEntry a b w1 w2 root R x (zero_weight) → f x ≡ true
  x_reached f starts steps before (as_source k v) =
      starts x (new_member x x R refl) (heaviest_addable_from n a w1 x k (λ e l m. (let t = now.root_top.most e l m in omega (arith, ints, pairs))))
  x_reached f starts steps before (from_member y yr k v) =
      steps y x (kept_member x y R yr) (new_member x x R refl) (before y yr) (tight_by_first a b w1 w2 y x k (omega (arith, ints, pairs)))
  x_reached f starts steps before (from_other u ur k v) =
      steps u x (kept_member x u R ur) (new_member x x R refl) (before u ur) (tight_by_second a b w1 w2 u x k (omega (arith, ints, pairs)))

  -- x is close to one of R
  same_in_first : (u : ℕ) → is_member u R ≡ true → w1 x ≡ w1 u → IsClose (w2 x) (w2 u)
  same_in_first u ur e =
      let l = others_below now x x_other in
      let lu = below_member now.set ur in
      first_close (w1 x) (w1 u) (w2 x) (w2 u) (w x) (w u) (now.adds x l) (now.adds u lu) (small x l) (small u lu) e

  x_close : IsEntry a b w1 w2 root R x zero_weight → (u : ℕ) × (is_member u R ≡ true) × IsClose (w2 x) (w2 u)
  x_close (as_source k v) = (root, now.root_in, same_in_first root now.root_in (omega (arith, ints, pairs)))
  x_close (from_member y yr k v) = (y, yr, same_in_first y yr (omega (arith, ints, pairs)))
  x_close (from_other u ur k v) = (u, ur, second_close (w2 x) (w2 u) (omega (arith, ints, pairs)))

  longer : length (with_one R x) ≡ suc (length R)
  longer = length-with_one R x now.set.rising (others_outside now x x_other)

  others_after : (z : ℕ) → is_member z (without_one O x) ≡ (ltb z n && not (is_member z (with_one R x)))
  others_after z = rw (is_member-without_one z x O, is_member-with_one z x R, now.others z)
      (and_neither (ltb z n) (is_member z R) (eqb z x) ∙ ap (λ t. ltb z n && not t) (or_commute (is_member z R) (eqb z x)))

  pub growing_more : IsGrowing n a b w old root (with_one R x) (without_one O x) w1 w2
  growing_more = record {
    set = IsSet-with_one n R x now.set (others_below now x x_other);
    others = others_after;
    root_in = kept_member x root R now.root_in;
    root_top = now.root_top;
    spanned = record {
      induct = λ f starts steps v m.
          let before = now.spanned.induct f (λ u ur s. starts u (kept_member x u R ur) s)
          (λ u z ur zr fu k. steps u z (kept_member x u R ur) (kept_member x z R zr) fu k) in
          elim (new_or_kept x v R m) [
            | inl e ↦ subst (λ z. f z ≡ true) (sym e) (x_reached f starts steps before x_entry)
            | inr k ↦ before v k
          ];
    };
    first_gains = now.first_gains;
    second_gains = now.second_gains;
    adds = now.adds;
    stays = λ z out. now.stays z (elim (cases_Bool (is_member z R)) [
      | inl k ↦ absurd (both_ways _ out (kept_member x z R k))
      | inr k ↦ k
    ]);
    near = λ v m. rw longer (elim (new_or_kept x v R m) [
      | inl e ↦ (let q = x_close x_entry in rw e (near_more (length R) (w2 x) (w2 q.0) (w2 root) q.2 (now.near q.0 q.1)))
      | inr k ↦ near_wider (length R) (w2 v) (w2 root) (now.near v k)
    ]);
    within = now.within;
  }

-- ---- the fringe

-- the elements that can be added enter as heaviest ones
pub fringe_start : {a b : Exchanges} {w1 w2 : ℕ → Weight} {root : ℕ} {O F' : List ℕ} {g g' : ℕ → Weight}
    → IsOffered (λ z. a.adds z && is_member z O) (λ z. w1 z ⊖ w1 root) [] g F' g'
    → IsFringe O F' (IsEntry a b w1 w2 root []) g'
fringe_start {a} {b} {w1} {w2} {root} {O} {F'} {g} {g'} offered =
    fringe_offered O [] F' (λ z e. ⊥) (IsEntry a b w1 w2 root []) (λ z. a.adds z && is_member z O) (λ z. w1 z ⊖ w1 root) g g'
    (record { within = λ x m. absurd (false≢true m); has = λ x m. absurd (false≢true m); most = λ x e o entry. absurd entry })
    offered
    (λ z t. (and_parts (a.adds z) (is_member z O) t).1)
    (λ z t. as_source (and_parts (a.adds z) (is_member z O) t).0 refl)
    (λ z e k. absurd k)
    back
  where
    back : (z : ℕ) (e : Weight) → is_member z O ≡ true → IsEntry a b w1 w2 root [] z e
        → ((e0 : Weight) × (⊥ × (e ≼ e0))) ⊎ (((a.adds z && is_member z O) ≡ true) × (e ≡ w1 z ⊖ w1 root))
    back z e zo (as_source k v) = inr (and_from (a.adds z) (is_member z O) k zo, v)
    back z e zo (from_member y yr k v) = absurd (false≢true yr)
    back z e zo (from_other u ur k v) = absurd (false≢true ur)

-- the entries by one reached element more
pub fringe_entered : {n : ℕ} {I : List ℕ} {a b : Exchanges} {w1 w2 : ℕ → Weight} {root : ℕ} {R O F F' : List ℕ} {g g' : ℕ → Weight} (x : ℕ)
    → AreExchangesOn n I a → AreExchangesOn n I b
    → ((z : ℕ) → a.adds z ≡ true → a.trades x z ≡ true → w1 root ≼ w1 x)
    → IsFringe O F (IsEntry a b w1 w2 root R) g
    → IsOffered (λ z. leads a b I x z && is_member z O) (entry_gain w1 w2 I x) F g F' g'
    → IsFringe O F' (IsEntry a b w1 w2 root (with_one R x)) g'
fringe_entered {n} {I} {a} {b} {w1} {w2} {root} {R} {O} {F} {F'} {g} {g'} x on_a on_b low fringe offered =
    fringe_offered O F F' (IsEntry a b w1 w2 root R) (IsEntry a b w1 w2 root (with_one R x))
    (λ z. leads a b I x z && is_member z O) (entry_gain w1 w2 I x) g g' fringe offered
    (λ z t. (and_parts (leads a b I x z) (is_member z O) t).1)
    (λ z t. new z (and_parts (leads a b I x z) (is_member z O) t).0)
    more back
  where
    new : (z : ℕ) → leads a b I x z ≡ true → IsEntry a b w1 w2 root (with_one R x) z (entry_gain w1 w2 I x z)
    new z t = elim (cases_Bool (is_member x I)) [
      | inl i ↦ from_member x (new_member x x R refl) (and_parts (not (a.adds z)) (a.trades x z)
          (sym (cond-true (is_member x I) (not (a.adds z) && a.trades x z) (b.trades z x) i) ∙ t)).1
          (cond-true (is_member x I) (w1 z ⊖ w1 x) (w2 x ⊖ w2 z) i)
      | inr o ↦ from_other x (new_member x x R refl) (sym (cond-false (is_member x I) (not (a.adds z) && a.trades x z) (b.trades z x) o) ∙ t)
          (cond-false (is_member x I) (w1 z ⊖ w1 x) (w2 x ⊖ w2 z) o)
    ]

    more : (z : ℕ) (e : Weight) → IsEntry a b w1 w2 root R z e → IsEntry a b w1 w2 root (with_one R x) z e
    more z e (as_source k v) = as_source k v
    more z e (from_member y yr k v) = from_member y (kept_member x y R yr) k v
    more z e (from_other u ur k v) = from_other u (kept_member x u R ur) k v

    by_x_first : (z : ℕ) (e : Weight) → is_member z O ≡ true → a.adds z ≡ false → a.trades x z ≡ true → e ≡ w1 z ⊖ w1 x
        → ((leads a b I x z && is_member z O) ≡ true) × (e ≡ entry_gain w1 w2 I x z)
    by_x_first z e zo out k v =
        let i = on_a.member x z k in (
          and_from (leads a b I x z) (is_member z O) (cond-true (is_member x I) (not (a.adds z) && a.trades x z) (b.trades z x) i
              ∙ and_from (not (a.adds z)) (a.trades x z) (ap not out) k) zo,
          v ∙ sym (cond-true (is_member x I) (w1 z ⊖ w1 x) (w2 x ⊖ w2 z) i),
        )

    by_x_second : (z : ℕ) (e : Weight) → is_member z O ≡ true → b.trades z x ≡ true → e ≡ w2 x ⊖ w2 z
        → ((leads a b I x z && is_member z O) ≡ true) × (e ≡ entry_gain w1 w2 I x z)
    by_x_second z e zo k v =
        let o = on_b.outside z x k in (
          and_from (leads a b I x z) (is_member z O) (cond-false (is_member x I) (not (a.adds z) && a.trades x z) (b.trades z x) o ∙ k) zo,
          v ∙ sym (cond-false (is_member x I) (w1 z ⊖ w1 x) (w2 x ⊖ w2 z) o),
        )

    under : (c d r e : Weight) → e ≡ c ⊖ d → r ≼ d → e ≼ (c ⊖ r)
    under c d r e v le = omega (arith, ints, pairs)

    -- what can be added gains at least as much by that
    by_new : (z : ℕ) (e : Weight) → is_member z O ≡ true → a.trades x z ≡ true → e ≡ w1 z ⊖ w1 x
        → ((e0 : Weight) × (IsEntry a b w1 w2 root R z e0 × (e ≼ e0)))
        ⊎ (((leads a b I x z && is_member z O) ≡ true) × (e ≡ entry_gain w1 w2 I x z))
    by_new z e zo k v = elim (cases_Bool (a.adds z)) [
      | inl h ↦ inl (w1 z ⊖ w1 root, (as_source h refl, under (w1 z) (w1 x) (w1 root) e v (low z h k)))
      | inr out ↦ inr (by_x_first z e zo out k v)
    ]

    back : (z : ℕ) (e : Weight) → is_member z O ≡ true → IsEntry a b w1 w2 root (with_one R x) z e
        → ((e0 : Weight) × (IsEntry a b w1 w2 root R z e0 × (e ≼ e0)))
        ⊎ (((leads a b I x z && is_member z O) ≡ true) × (e ≡ entry_gain w1 w2 I x z))
    back z e zo (as_source k v) = inl (e, (as_source k v, at_most_same e e refl))
    back z e zo (from_member y yr k v) = elim (new_or_kept x y R yr) [
      | inl same ↦ by_new z e zo (subst (λ t. a.trades t z ≡ true) same k) (subst (λ t. e ≡ w1 z ⊖ w1 t) same v)
      | inr r ↦ inl (e, (from_member y r k v, at_most_same e e refl))
    ]
    back z e zo (from_other u ur k v) = elim (new_or_kept x u R ur) [
      | inl same ↦ inr (by_x_second z e zo (subst (λ t. b.trades z t ≡ true) same k) (subst (λ t. e ≡ w2 t ⊖ w2 z) same v))
      | inr r ↦ inl (e, (from_other u r k v, at_most_same e e refl))
    ]

-- an element less outside
pub fringe_without : {O F : List ℕ} {E : ℕ → Weight → Type 0} {g : ℕ → Weight} (x : ℕ) → IsFringe O F E g
    → IsFringe (without_one O x) (without_one F x) E g
fringe_without {O} {F} {E} {g} x fringe = record {
  within = λ z m. (let s = parts F z m in is_member-without_one z x O ∙ and_from (is_member z O) (not (eqb z x)) (fringe.within z s.0) s.1);
  has = λ z m. fringe.has z (parts F z m).0;
  most = λ z e zo entry. (let s = parts O z zo in let m = fringe.most z e s.0 entry in
      (is_member-without_one z x F ∙ and_from (is_member z F) (not (eqb z x)) m.0 s.1, m.1));
}
  where
    parts : (S : List ℕ) (z : ℕ) → is_member z (without_one S x) ≡ true → (is_member z S ≡ true) × (not (eqb z x) ≡ true)
    parts S z m = and_parts (is_member z S) (not (eqb z x)) (sym (is_member-without_one z x S) ∙ m)
