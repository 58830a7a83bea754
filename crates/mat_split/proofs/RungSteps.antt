-- What the loop over the sizes keeps: the rungs so far, one for each size, are right and within the bound, and the next one is within its
-- own. As its set is independent, there are at most n rungs before it.
use Rattle.mat_split.proofs.Common.{◌≡◌, ℕ, suc, zero, ◌+◌, ◌-◌, ◌*◌, ◌^◌, ◌<◌, ◌≤◌, Bool, List, [], ◌∷◌, ◌++◌, length, Some, replicate, refl, sym, ap, ◌∙◌, subst, arith, same_Some, none-some, All-get_or, slice_get, largest_weight, IsSet-length, zero_weight, weight_at, IsWeightWithin}
use Rattle.mat_split.proofs.Common.{AreWeightsWithin, Weight, IsMatroid, IsCut, split_bound, IsSplitWithin, IsSplitRung, weights_of, size_bound, IsBoundedRung, IsLadder, Rung, AreWeightsWithin-from}
use Rattle.std.proofs.Math.Nat.{mul-le-mul_left}
use Rattle.std.proofs.lemmas.List.{length-replicate}
use Rattle.mat_split.proofs.LaddersExist.{parts_within, IsSplitAt-nil}
use mathlib.Core.Path.{fun_ext}

-- the rungs of the sizes so far, and the next one
pub record AreRungs (n : ℕ) (p q : List ℕ → Bool) (w : List Weight) (rungs : List Rung) (next : Rung) : Type 0 where
  pub first_laws : IsMatroid n p
  pub second_laws : IsMatroid n q
  pub small : (x : ℕ) → x < n → IsWeightWithin largest_weight (weight_at w x)
  pub each : (k : ℕ) (rung : Rung) → slice_get rungs k ≡ Some rung → IsBoundedRung n p q w k rung
  pub next_rung : IsSplitRung n p q (weight_at w) (length rungs) next

-- a split of one weight is a split of another that is the same below n
IsSplitWithin-same : (n : ℕ) (w v w1 w2 : ℕ → Weight) (h : ℕ) → ((x : ℕ) → x < n → w x ≡ v x)
    → IsSplitWithin n w w1 w2 h → IsSplitWithin n v w1 w2 h
IsSplitWithin-same n w v w1 w2 h same s = record { adds = λ x l. s.adds x l ∙ same x l; within = s.within }

IsSplitRung-same : (n : ℕ) (p q : List ℕ → Bool) (w v : ℕ → Weight) (k : ℕ) (rung : Rung)
    → ((x : ℕ) → x < n → w x ≡ v x) → IsSplitRung n p q w k rung → IsSplitRung n p q v k rung
IsSplitRung-same n p q w v k rung same s = record {
  first_length = s.first_length;
  second_length = s.second_length;
  at = record {
    size = s.at.size;
    first = s.at.first;
    second = s.at.second;
    split = IsSplitWithin-same n w v (weight_at rung.first) (weight_at rung.second) (size_bound n k) same s.at.split;
  };
}

-- an item of a list with one more at the end
last_or_before : (rungs : List Rung) (last rung : Rung) (k : ℕ) → slice_get (rungs ++ last ∷ []) k ≡ Some rung
    → ((P : ℕ → Rung → Type 0) → ((j : ℕ) (r : Rung) → slice_get rungs j ≡ Some r → P j r) → P (length rungs) last → P k rung)
last_or_before [] last rung zero e P before at = subst (P 0) (same_Some last rung e) at
last_or_before [] last rung (suc k) e P before at = absurd (none-some rung e)
last_or_before (r ∷ rungs) last rung zero e P before at = before 0 rung e
last_or_before (r ∷ rungs) last rung (suc k) e P before at = last_or_before rungs last rung k e (λ j s. P (suc j) s) (λ j s h. before (suc j) s h) at

length-pushed : (rungs : List Rung) (last : Rung) → length (rungs ++ last ∷ []) ≡ suc (length rungs)
length-pushed [] last = refl
length-pushed (r ∷ rungs) last = ap suc (length-pushed rungs last)

weight_at-zeros : (n x : ℕ) → weight_at (replicate n zero_weight) x ≡ zero_weight
weight_at-zeros (suc n) (suc x) = weight_at-zeros n x
weight_at-zeros _ x = refl

-- before the first set
pub AreRungs-start : {n m : ℕ} {p q : List ℕ → Bool} {w : List Weight} {none : List Rung} {rung : Rung} → IsMatroid n p → IsMatroid m q
    → m ≡ n → length w ≡ n → AreWeightsWithin largest_weight w → none ≡ [] → rung.set ≡ []
    → rung.first ≡ w → rung.second ≡ replicate (length w) zero_weight → AreRungs n p q w none rung
AreRungs-start {n} {m} {p} {q} {w} {none} {rung} lp lq ground_size long within none_is set_is first_is second_is = rw none_is (record {
  first_laws = lp;
  second_laws = second_laws;
  small = small;
  each = λ k r e. absurd (none-some r e);
  next_rung = record {
    first_length = ap (λ (l : List Weight). length l) first_is ∙ long;
    second_length = ap (λ (l : List Weight). length l) second_is ∙ length-replicate (length w) zero_weight ∙ long;
    at = rw (set_is, first_is, second_is, zeros) (IsSplitAt-nil lp second_laws w small);
  };
})
  where
    second_laws : IsMatroid n q
    second_laws = rw ground_size at lq

    small : (x : ℕ) → x < n → IsWeightWithin largest_weight (weight_at w x)
    small x l = All-get_or (IsWeightWithin largest_weight) w x zero_weight (rw long l) within

    zeros : weight_at (replicate (length w) zero_weight) ≡ (λ x. zero_weight)
    zeros = fun_ext (λ x. weight_at-zeros (length w) x)

module _ {n : ℕ} {p q : List ℕ → Bool} {w : List Weight} {rungs : List Rung} {rung : Rung} (now : AreRungs n p q w rungs rung) where
  pub few_rungs : length rungs ≤ n
  few_rungs = let at = now.next_rung.at in omega (arith, at.size, IsSet-length n rung.set (now.first_laws.sets rung.set at.first.passes))

  -- one more rung leaves fewer to come
  pub fewer_left : {all : List Rung} → all ≡ rungs ++ rung ∷ [] → (n + 1) - length all < (n + 1) - length rungs
  fewer_left pushed = rw pushed (let long = length-pushed rungs rung in let few = few_rungs in omega arith)

  same_weights : (x : ℕ) → x < n → weights_of rung x ≡ weight_at w x
  same_weights = now.next_rung.at.split.adds

  -- what the step to the next size takes
  pub weights_within : (x : ℕ) → x < n → IsWeightWithin largest_weight (weights_of rung x)
  weights_within x l = subst (IsWeightWithin largest_weight) (sym (same_weights x l)) (now.small x l)

  pub own_rung : IsSplitRung n p q (weights_of rung) (length rung.set) rung
  own_rung =
      subst (λ k. IsSplitRung n p q (weights_of rung) k rung) (sym now.next_rung.at.size)
      (IsSplitRung-same n p q (weight_at w) (weights_of rung) (length rungs) rung (λ x l. sym (same_weights x l)) now.next_rung)

  -- the rung is right and within the bound of all
  bounded : IsBoundedRung n p q w (length rungs) rung
  bounded =
      let s = now.next_rung in
      let most = mul-le-mul_left (2 * 10 ^ 12 * (n + 1) * (n + 1)) few_rungs in
      let within : (x : ℕ) → x < n → IsWeightWithin (split_bound n) (weight_at rung.first x) × IsWeightWithin (split_bound n) (weight_at rung.second x) =
      λ x l. parts_within n (weight_at w) (weight_at rung.first) (weight_at rung.second) largest_weight (size_bound n (length rungs)) (split_bound n) x l
      (now.small x l) s.at.split (omega arith) in
      record {
        right = record {
          size = s.at.size;
          first_length = s.first_length;
          second_length = s.second_length;
          split = s.at.split.adds;
          first_heaviest = s.at.first;
          second_heaviest = s.at.second;
        };
        first_bounded = AreWeightsWithin-from (split_bound n) n rung.first s.first_length (λ x l. (within x l).0);
        second_bounded = AreWeightsWithin-from (split_bound n) n rung.second s.second_length (λ x l. (within x l).1);
      }

  each_with : (k : ℕ) (r : Rung) → slice_get (rungs ++ rung ∷ []) k ≡ Some r → IsBoundedRung n p q w k r
  each_with k r e = last_or_before rungs rung r k e (IsBoundedRung n p q w) now.each bounded

  -- a rung of one more element is the next
  pub AreRungs-next : {larger : Rung} {all : List Rung} → all ≡ rungs ++ rung ∷ []
      → IsSplitRung n p q (weights_of rung) (suc (length rung.set)) larger
      → AreRungs n p q w all larger
  AreRungs-next {larger} {all} pushed s = rw pushed (record {
    first_laws = now.first_laws;
    second_laws = now.second_laws;
    small = now.small;
    each = each_with;
    next_rung = subst (λ k. IsSplitRung n p q (weight_at w) k larger) (ap suc now.next_rung.at.size ∙ sym (length-pushed rungs rung))
        (IsSplitRung-same n p q (weights_of rung) (weight_at w) (suc (length rung.set)) larger same_weights s);
  })

  -- a cut ends the ladder
  pub IsLadder-end : {cut : List ℕ} {all : List Rung} → all ≡ rungs ++ rung ∷ [] → IsCut n p q (length rung.set) cut
      → IsLadder n p q w all cut
  IsLadder-end {cut} {all} pushed c = rw pushed (record {
    some = (let long = length-pushed rungs rung in omega arith);
    each = each_with;
    last = λ k e. subst (λ j. IsCut n p q j cut) (now.next_rung.at.size ∙ (let long = length-pushed rungs rung in omega arith)) c;
  })
