-- What the growing search keeps, over lists of weights and of gains. The weights of the reached set change by one number that is put on them only
-- at the end. All numbers are far within an `i128`: the weights are within 10^27, and what is kept of them is within 10^29.
use Rattle.mat_exchange.proofs.Common.{◌≡◌, ℕ, suc, ◌^◌, ◌<◌, ◌≤◌, true, false, ◌&&◌, not, cond, eqb, ltb, List, [], length, Option, None, Some, IfSome, inl, inr, refl, sym, ap, ◌∙◌, subst, arith, cases_Bool, cases_lt, both_ways, and_parts, and_right, ltb-true, ints, get_or_past, most_elements}
use Rattle.mat_exchange.proofs.Common.{largest_weight, largest_number, split_room, is_member, with_one, without_one, all_below, is_member-without_one, below_member, IsSet-length, is_member-all_below, zero_weight, ◌⊕◌, ◌⊖◌, ◌≼◌, weight_at, IsWeightWithin, AreWeightsWithin, Weight, pairs}
use Rattle.mat_exchange.proofs.Common.{at_most_same, weight_within_at, Exchange, exchanges_in, change_room, lowered, raised, IsTableAt, IsHeaviestWeightOrNone, greater_of, NoExchangeGains, IsEntry, IsFringe, IsOffered, IsHeaviestOf, leads, entry_gain, sum_at, IsHeaviestAddable, length-with_one}
use Rattle.mat_exchange.specs.Growing.IsEntry.{as_source, from_member, from_other}
use Rattle.mat_exchange.proofs.HeaviestAddable.{addable_below}
use Rattle.mat_exchange.proofs.Growing.{AreExchangesOn, IsGrowing, growing_start, others_below, root_below}
use Rattle.mat_exchange.proofs.GrowthEntries.{fringe_entered, fringe_start}
use Rattle.mat_exchange.proofs.Fringes.{offered_same}
use Rattle.mat_exchange.proofs.Raising.{lowered_zero, raised_zero}
use Rattle.mat_exchange.proofs.WeightChanges.{lowered-member, lowered-outside, raised-member, raised-outside}
use Rattle.mat_exchange.proofs.ChangesSoFar.{entered_heaviest, stored_first, stored_second}
use Rattle.mat_exchange.proofs.WeightBounds.{IsWeightWithin-weaken, AreWeightsWithin-from, difference_within, first_within as first_bound}
use Rattle.mat_exchange.proofs.WeightBounds.{second_within as second_bound}
use mathlib.Core.Path.{fun_ext}

-- ---- tables

-- only elements that have a row can be exchanged
trading_below : (rows : List Exchange) (y x : ℕ) → (exchanges_in rows).trades y x ≡ true → x < length rows
trading_below rows y x t = elim (cases_lt x (length rows)) [
  | inl l ↦ l
  | inr g ↦ absurd (both_ways _ (ap (λ (r : Exchange). is_member y r.with) (get_or_past rows x (record { addable = false; with = [] }) g)) t)
]

pub exchanges_on : (n : ℕ) (I : List ℕ) (rows : List Exchange) → IsTableAt n I rows → AreExchangesOn n I (exchanges_in rows)
exchanges_on n I rows t = record {
  member = t.member;
  outside = t.outside;
  member_below = λ y x k. below_member t.set (t.member y x k);
  below = λ y x k. subst (λ m. x < m) t.count (trading_below rows y x k);
  adds_below = λ x k. subst (λ m. x < m) t.count (addable_below rows x k);
}

-- ---- the state

-- the weights as they are: what is kept of them, and the change so far on the reached set
pub record IsShifted (n : ℕ) (I : List ℕ) (first second : List Exchange) (u1 u2 : List Weight) (root : ℕ) (R O : List ℕ)
    (total : Weight) (w1 w2 : List Weight) : Type 0 where
  pub few : n ≤ most_elements
  pub first_on : AreExchangesOn n I (exchanges_in first)
  pub second_on : AreExchangesOn n I (exchanges_in second)
  pub small : (x : ℕ) → x < n → IsWeightWithin largest_weight (sum_at (weight_at u1) (weight_at u2) x)
  pub old_small : AreWeightsWithin split_room u2
  pub first_length : length w1 ≡ n
  pub second_length : length w2 ≡ n
  pub growing : IsGrowing n (exchanges_in first) (exchanges_in second) (sum_at (weight_at u1) (weight_at u2)) (weight_at u2) root R O
      (lowered (weight_at w1) R total) (raised (weight_at w2) R total)
  pub root_kept : weight_at w2 root ≡ weight_at u2 root

module _ {n : ℕ} {I : List ℕ} {first second : List Exchange} {u1 u2 : List Weight} {root : ℕ} {R O : List ℕ} {total : Weight}
    {w1 w2 : List Weight}
    (now : IsShifted n I first second u1 u2 root R O total w1 w2) where
  pub second_small : (x : ℕ) → x < n → IsWeightWithin (10 ^ 26) (raised (weight_at w2) R total x)
  second_small x l = second_bound (raised (weight_at w2) R total x) n now.few
      (now.growing.within split_room (λ y k. weight_within_at split_room u2 now.old_small y) x l)

  first_small : (x : ℕ) → x < n → IsWeightWithin (10 ^ 27) (lowered (weight_at w1) R total x)
  first_small x l = first_bound (lowered (weight_at w1) R total x) (raised (weight_at w2) R total x) (sum_at (weight_at u1) (weight_at u2) x)
      (now.growing.adds x l) (now.small x l) (second_small x l)

  pub reached_below : (x : ℕ) → is_member x R ≡ true → x < n
  reached_below x m = below_member now.growing.set m

  pub total_small : IsWeightWithin (10 ^ 27) total
  total_small = between (raised (weight_at w2) R total root) (weight_at u2 root)
      (raised-member (weight_at w2) R total root now.growing.root_in ∙ ap (λ (a : Weight). a ⊕ total) now.root_kept)
      (second_small root (root_below now.growing)) (weight_within_at split_room u2 now.old_small root)
    where
      between : (v a : Weight) → v ≡ a ⊕ total → IsWeightWithin (10 ^ 26) v → IsWeightWithin split_room a → IsWeightWithin (10 ^ 27) total
      between v a e hv ha = omega (arith, ints, pairs)

  kept_first : (x : ℕ) → x < n → IsWeightWithin (10 ^ 28) (weight_at w1 x)
  kept_first x l = elim (cases_Bool (is_member x R)) [
    | inl k ↦ stored_first (weight_at w1 x) total _ (lowered-member (weight_at w1) R total x k) (first_small x l) total_small
    | inr k ↦ IsWeightWithin-weaken _ _ _ (omega arith)
        (subst (IsWeightWithin (10 ^ 27)) (lowered-outside (weight_at w1) R total x k) (first_small x l))
  ]

  kept_second : (x : ℕ) → x < n → IsWeightWithin (10 ^ 29) (weight_at w2 x)
  kept_second x l = elim (cases_Bool (is_member x R)) [
    | inl k ↦ stored_second (weight_at w2 x) total _ (raised-member (weight_at w2) R total x k)
        (IsWeightWithin-weaken _ _ _ (omega arith) (second_small x l)) total_small
    | inr k ↦ IsWeightWithin-weaken _ _ _ (omega arith)
        (subst (IsWeightWithin (10 ^ 26)) (raised-outside (weight_at w2) R total x k) (second_small x l))
  ]

  pub first_within : AreWeightsWithin largest_number w1
  first_within = AreWeightsWithin-from largest_number n w1 now.first_length (λ x l. IsWeightWithin-weaken _ _ _ (omega arith) (kept_first x l))

  pub second_within : AreWeightsWithin largest_number w2
  second_within = AreWeightsWithin-from largest_number n w2 now.second_length (λ x l. IsWeightWithin-weaken _ _ _ (omega arith) (kept_second x l))

  pub total_within : IsWeightWithin change_room total
  total_within = IsWeightWithin-weaken _ _ _ (omega arith) total_small

  pub other_below : (x : ℕ) → is_member x O ≡ true → x < n
  other_below x m = others_below now.growing x m

  entry_small : (x : ℕ) (e : Weight) → x < n
      → IsEntry (exchanges_in first) (exchanges_in second) (lowered (weight_at w1) R total) (raised (weight_at w2) R total) root R x e
      → IsWeightWithin (10 ^ 28) e
  entry_small x e l (as_source k v) =
      difference_within (10 ^ 27) (10 ^ 27) (10 ^ 28) _ _ e (omega arith) v (first_small x l) (first_small root (root_below now.growing))
  entry_small x e l (from_member y yr k v) =
      difference_within (10 ^ 27) (10 ^ 27) (10 ^ 28) _ _ e (omega arith) v (first_small x l) (first_small y (reached_below y yr))
  entry_small x e l (from_other u ur k v) =
      difference_within (10 ^ 26) (10 ^ 26) (10 ^ 28) _ _ e (omega arith) v (second_small u (reached_below u ur)) (second_small x l)

-- the state of the search: the gains of the fringe are less by the change so far, and so is the slack of the heaviest sink
pub record IsGrowth (n : ℕ) (I : List ℕ) (first second : List Exchange) (u1 u2 : List Weight) (root : ℕ) (R O F : List ℕ)
    (total : Weight) (w1 w2 g : List Weight) (top inside : Option Weight) : Type 0 where
  pub shifted : IsShifted n I first second u1 u2 root R O total w1 w2
  pub gains_length : length g ≡ n
  pub fringe : IsFringe O F
      (IsEntry (exchanges_in first) (exchanges_in second) (lowered (weight_at w1) R total) (raised (weight_at w2) R total) root R)
      (raised (weight_at g) F total)
  pub top_now : IsHeaviestWeightOrNone (exchanges_in second).adds (raised (weight_at w2) R total) top
  pub inside_now : IsHeaviestWeightOrNone (λ x. (exchanges_in second).adds x && is_member x R) (weight_at w2) inside

module _ {n : ℕ} {I : List ℕ} {first second : List Exchange} {u1 u2 : List Weight} {root : ℕ} {R O F : List ℕ} {total : Weight}
    {w1 w2 g : List Weight} {top inside : Option Weight} (now : IsGrowth n I first second u1 u2 root R O F total w1 w2 g top inside) where
  pub fringe_below : (x : ℕ) → is_member x F ≡ true → x < n
  fringe_below x m = other_below now.shifted x (now.fringe.within x m)

  pub gain_small : (x : ℕ) → is_member x F ≡ true → IsWeightWithin (10 ^ 29) (weight_at g x)
  gain_small x m = stored_second (weight_at g x) total _ (raised-member (weight_at g) F total x m)
      (entry_small now.shifted x _ (fringe_below x m) (now.fringe.has x m)) (total_small now.shifted)

  pub gains_within : (x : ℕ) → is_member x F ≡ true → IsWeightWithin largest_number (weight_at g x)
  gains_within x m = IsWeightWithin-weaken _ _ _ (omega arith) (gain_small x m)

  pub top_within : IfSome top (IsWeightWithin largest_number)
  top_within = within_top top now.top_now
    where
      within_top : (top : Option Weight) → IsHeaviestWeightOrNone (exchanges_in second).adds (raised (weight_at w2) R total) top
          → IfSome top (IsWeightWithin largest_number)
      within_top None h = _
      within_top (Some t) h = subst (IsWeightWithin largest_number) h.weighs
          (IsWeightWithin-weaken _ _ _ (omega arith) (second_small now.shifted h.element (now.shifted.second_on.adds_below h.element h.passes)))

  pub inside_within : IfSome inside (IsWeightWithin largest_number)
  inside_within = within_inside inside now.inside_now
    where
      within_inside : (inside : Option Weight) → IsHeaviestWeightOrNone (λ x. (exchanges_in second).adds x && is_member x R) (weight_at w2) inside
          → IfSome inside (IsWeightWithin largest_number)
      within_inside None h = _
      within_inside (Some t) h = subst (IsWeightWithin largest_number) h.weighs (weight_within_at largest_number w2 (second_within now.shifted) h.element)

  -- what enters no earlier than after the change d enters no earlier than after what it is more than so far
  pub late_from_here : (d : Weight) → ((y : ℕ) → is_member y F ≡ true → (weight_at g y ⊕ d) ≼ zero_weight)
      → (y : ℕ) → is_member y F ≡ true → (raised (weight_at g) F total y ⊕ (d ⊖ total)) ≼ zero_weight
  late_from_here d late y m = rw (raised-member (weight_at g) F total y m) (later (weight_at g y) (late y m))
    where
      later : (a : Weight) → (a ⊕ d) ≼ zero_weight → ((a ⊕ total) ⊕ (d ⊖ total)) ≼ zero_weight
      later a le = omega (arith, ints, pairs)

  -- fewer are left
  pub fewer_left : (x : ℕ) {R' : List ℕ} → R' ≡ with_one R x → is_member x R ≡ false → length R' ≡ suc (length R)
  fewer_left x {R'} e out = ap length e ∙ length-with_one R x now.shifted.growing.set.rising out

  pub reached_few : length R ≤ n
  reached_few = IsSet-length n R now.shifted.growing.set

-- ---- the start

-- the fringe of the root alone, after both offers
pub fringe_of_root : {n root : ℕ} {I : List ℕ} {first second : List Exchange} {R O F F' : List ℕ} (A : List ℕ)
    (u1 u2 g g' h : List Weight) → IsTableAt n I first → IsTableAt n I second → R ≡ with_one [] root
    → ((x : ℕ) → is_member x A ≡ (exchanges_in first).adds x)
    → IsOffered (λ z. is_member z A && is_member z O) (λ z. weight_at u1 z ⊖ weight_at u1 root) [] (weight_at g) F (weight_at g')
    → IsOffered (λ z. leads (exchanges_in first) (exchanges_in second) I root z && is_member z O)
    (entry_gain (weight_at u1) (weight_at u2) I root) F (weight_at g') F' (weight_at h)
    → IsFringe O F' (IsEntry (exchanges_in first) (exchanges_in second) (weight_at u1) (weight_at u2) root R) (weight_at h)
fringe_of_root {n} {root} {I} {first} {second} {R} {O} {F} {F'} A u1 u2 g g' h t1 t2 er tells offered1 offered2 =
    rw er (fringe_entered root (exchanges_on n I first t1) (exchanges_on n I second t2) (λ z h k. at_most_same (weight_at u1 root) _ refl)
    (fringe_start (offered_same _ (λ z. (exchanges_in first).adds z && is_member z O) _ (λ z. weight_at u1 z ⊖ weight_at u1 root) _ _ _ _
    (λ z. ap (λ t. t && is_member z O) (sym (tells z))) (λ z. refl) offered1)) offered2)

pub growth_start : {n root : ℕ} {I : List ℕ} {first second : List Exchange} {u1 u2 : List Weight} {R O F : List ℕ} {h : List Weight}
    {total : Weight} {top inside : Option Weight} → n ≤ most_elements
    → IsTableAt n I first → IsTableAt n I second → IsHeaviestOf (exchanges_in first).adds (weight_at u1) root
    → NoExchangeGains (exchanges_in first) (weight_at u1) → NoExchangeGains (exchanges_in second) (weight_at u2)
    → ((x : ℕ) → x < n → IsWeightWithin largest_weight (sum_at (weight_at u1) (weight_at u2) x)) → AreWeightsWithin split_room u2
    → length u1 ≡ n → length u2 ≡ n → length h ≡ n
    → R ≡ with_one [] root → ((x : ℕ) → is_member x O ≡ (ltb x n && not (eqb x root)))
    → IsFringe O F (IsEntry (exchanges_in first) (exchanges_in second) (weight_at u1) (weight_at u2) root R) (weight_at h)
    → total ≡ zero_weight → IsHeaviestWeightOrNone (exchanges_in second).adds (weight_at u2) top
    → inside ≡ cond ((exchanges_in second).adds root) (greater_of None (weight_at u2 root)) None
    → IsGrowth n I first second u1 u2 root R O F total u1 u2 h top inside
growth_start {n} {root} {I} {first} {second} {u1} {u2} {R} {O} {F} {h} {total} {top} {inside} few t1 t2 source gains1 gains2 small
    old_small long1 long2 long3 er others fringe none most within =
    let on1 = exchanges_on n I first t1 in
    let on2 = exchanges_on n I second t2 in
    let addable : IsHeaviestAddable n (exchanges_in first) (weight_at u1) root = record { adds = source.passes; most = λ e l k. source.most e k } in
    let same1 : lowered (weight_at u1) (with_one [] root) total ≡ weight_at u1 = fun_ext (λ z. sym (lowered_zero (weight_at u1) _ total z none)) in
    let same2 : raised (weight_at u2) (with_one [] root) total ≡ weight_at u2 = fun_ext (λ z. sym (raised_zero (weight_at u2) _ total z none)) in
    let same3 : raised (weight_at h) F total ≡ weight_at h = fun_ext (λ z. sym (raised_zero (weight_at h) F total z none)) in
    rw (er, within) (record {
      shifted = record {
        few = few;
        first_on = on1;
        second_on = on2;
        small = small;
        old_small = old_small;
        first_length = long1;
        second_length = long2;
        growing = rw (same1, same2) (growing_start addable (on1.adds_below root source.passes) gains1 gains2 (λ x l. refl) (λ x. refl) others);
        root_kept = refl;
      };
      gains_length = long3;
      fringe = rw (same1, same2, same3)
          (subst (λ S. IsFringe O F (IsEntry (exchanges_in first) (exchanges_in second) (weight_at u1) (weight_at u2) root S) (weight_at h))
          er fringe);
      top_now = rw same2 most;
      inside_now = entered_heaviest (exchanges_in second).adds [] (weight_at u2) (weight_at u2) root None refl (λ z d. refl)
          (λ z. and_right ((exchanges_in second).adds z) false refl);
    })

-- the elements outside at the start
pub others_start : (n root : ℕ) (O A : List ℕ) → O ≡ without_one A root → A ≡ all_below n → (x : ℕ)
    → is_member x O ≡ (ltb x n && not (eqb x root))
others_start n root O A e a x =
    ap (is_member x) e ∙ is_member-without_one x root A ∙ ap (λ t. t && not (eqb x root)) (ap (is_member x) a ∙ is_member-all_below x n)

pub others_start_below : (n root : ℕ) (O A : List ℕ) → O ≡ without_one A root → A ≡ all_below n → (x : ℕ)
    → is_member x O ≡ true → x < n
others_start_below n root O A e a x m =
    ltb-true x n (and_parts (ltb x n) (not (eqb x root)) (sym (others_start n root O A e a x) ∙ m)).0

-- the first weights at the start
pub first_start : (n : ℕ) (u1 u2 : List Weight) → length u1 ≡ n
    → ((x : ℕ) → x < n → IsWeightWithin largest_weight (sum_at (weight_at u1) (weight_at u2) x))
    → AreWeightsWithin split_room u2 → AreWeightsWithin largest_number u1
first_start n u1 u2 long small old = AreWeightsWithin-from largest_number n u1 long (λ x l.
    difference_bound (weight_at u1 x) (weight_at u2 x) (small x l) (weight_within_at split_room u2 old x))
  where
    difference_bound : (a b : Weight) → IsWeightWithin largest_weight (a ⊕ b) → IsWeightWithin split_room b → IsWeightWithin largest_number a
    difference_bound a b sum within = omega (arith, ints)

pub others_less : {n : ℕ} {O' : List ℕ} (O : List ℕ) (x : ℕ) → O' ≡ without_one O x → ((v : ℕ) → is_member v O ≡ true → v < n)
    → (v : ℕ) → is_member v O' ≡ true → v < n
others_less {n} {O'} O x e below v m =
    below v (and_parts (is_member v O) (not (eqb v x)) (sym (ap (is_member v) e ∙ is_member-without_one v x O) ∙ m)).0
