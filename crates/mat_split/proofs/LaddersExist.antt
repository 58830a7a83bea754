-- Every pair of matroids has a ladder: from the empty set, under all of the weight and none of it, one set after the other until the
-- cut. The set of k elements has second weights of at most 2 m (n + 1)^2 k, which is within the bound of a ladder, since k ≤ n.
use Rattle.mat_split.proofs.Common.{◌≡◌, ℕ, suc, zero, ◌+◌, ◌*◌, ◌^◌, ◌<◌, ◌≤◌, Bool, List, [], ◌∷◌, length, get_or, map, inl, inr, refl, sym, ap, ◌∙◌, subst, arith, same_Some, none-some, All-get_or, All-from_get_or, slice_get, Some, largest_weight, counted_from, below_member, IsSet-length}
use Rattle.mat_split.proofs.Common.{zero_weight, weight_at, IsWeightWithin, AreWeightsWithin, Weight, pairs, IsMatroid, IsHeaviest, IsRung, IsCut, split_bound, IsSplitWithin, IsBoundedRung, IsLadder, Rung, IsSplitAt}
use Rattle.std.proofs.Math.Nat.{mul-le-mul_left}
use Rattle.std.proofs.lemmas.Int.{ints}
use Rattle.mat_sets.proofs.WeightSums.{weight_sum-same}
use Rattle.mat_laws.proofs.HeaviestSteps.{IsHeaviest-nil}
use Rattle.mat_split.proofs.NextRungs.{next_or_cut}

-- ---- weights as lists

-- the list of the weights of the numbers below n
abbrev weights_below : ℕ → (ℕ → Weight) → List Weight
weights_below n f = map f (counted_from 0 n)

length-counted : (lo n : ℕ) (f : ℕ → Weight) → length (map f (counted_from lo n)) ≡ n
length-counted lo zero f = refl
length-counted lo (suc n) f = ap suc (length-counted (suc lo) n f)

counted-at : (lo n i : ℕ) (f : ℕ → Weight) → i < n → get_or (map f (counted_from lo n)) i zero_weight ≡ f (lo + i)
counted-at lo zero i f l = absurd (omega arith)
counted-at lo (suc n) zero f l = ap f (omega arith)
counted-at lo (suc n) (suc i) f l = counted-at (suc lo) n i f (omega arith) ∙ ap f (omega arith)

weight_at-weights_below : (n : ℕ) (f : ℕ → Weight) (x : ℕ) → x < n → weight_at (weights_below n f) x ≡ f x
weight_at-weights_below n f x l = counted-at 0 n x f l ∙ ap f (omega arith)

AreWeightsWithin-weights_below : (bound n : ℕ) (f : ℕ → Weight) → ((x : ℕ) → x < n → IsWeightWithin bound (f x)) → AreWeightsWithin bound (weights_below n f)
AreWeightsWithin-weights_below bound n f each =
    let long = length-counted 0 n f in
    All-from_get_or (IsWeightWithin bound) (weights_below n f) zero_weight (λ x l.
    let below : x < n = omega arith in
    subst (IsWeightWithin bound) (sym (weight_at-weights_below n f x below)) (each x below))

-- a set that is heaviest under a weight is heaviest under one that is the same below n
IsHeaviest-same : {n : ℕ} {p : List ℕ → Bool} → IsMatroid n p → (f g : ℕ → Weight) (X : List ℕ) → ((x : ℕ) → x < n → f x ≡ g x)
    → IsHeaviest p g X → IsHeaviest p f X
IsHeaviest-same {n} {p} laws f g X same best = record {
  passes = best.passes;
  most = λ Y ok size.
      let here = weight_sum-same f g X (λ k m. same k (below_member (laws.sets X best.passes) m)) in
      let there = weight_sum-same f g Y (λ k m. same k (below_member (laws.sets Y ok) m)) in
      let most = best.most Y ok size in
      omega (arith, ints, pairs);
}

-- ---- rungs

-- the rung of a split set
abbrev rung_of : ℕ → List ℕ → (ℕ → Weight) → (ℕ → Weight) → Rung
rung_of n I w1 w2 = record { set = I; first = weights_below n w1; second = weights_below n w2 }

-- both weights of a split are within m of the bound of the second
pub parts_within : (n : ℕ) (w w1 w2 : ℕ → Weight) (m h b x : ℕ) → x < n → IsWeightWithin m (w x) → IsSplitWithin n w w1 w2 h → h + m ≤ b
    → IsWeightWithin b (w1 x) × IsWeightWithin b (w2 x)
parts_within n w w1 w2 m h b x l small s fits =
    let adds = s.adds x l in
    let within = s.within x l in
    omega (arith, ints, pairs)

module _ {n : ℕ} {p q : List ℕ → Bool} (lp : IsMatroid n p) (lq : IsMatroid n q) (w : List Weight)
    (small : (x : ℕ) → x < n → IsWeightWithin largest_weight (weight_at w x)) where
  IsRung-rung_of : (k h : ℕ) (I : List ℕ) (w1 w2 : ℕ → Weight) → IsSplitAt n p q (weight_at w) k h I w1 w2
      → IsRung n p q w k I (weights_below n w1) (weights_below n w2)
  IsRung-rung_of k h I w1 w2 at =
      let first : (x : ℕ) → x < n → weight_at (weights_below n w1) x ≡ w1 x = λ x l. weight_at-weights_below n w1 x l in
      let second : (x : ℕ) → x < n → weight_at (weights_below n w2) x ≡ w2 x = λ x l. weight_at-weights_below n w2 x l in
      record {
        size = at.size;
        first_length = length-counted 0 n w1;
        second_length = length-counted 0 n w2;
        split = λ x l. rw (first x l, second x l) (at.split.adds x l);
        first_heaviest = IsHeaviest-same lp (weight_at (weights_below n w1)) w1 I first at.first;
        second_heaviest = IsHeaviest-same lq (weight_at (weights_below n w2)) w2 I second at.second;
      }

  IsBoundedRung-rung_of : (k : ℕ) (I : List ℕ) (w1 w2 : ℕ → Weight) → IsSplitAt n p q (weight_at w) k (2 * 10 ^ 12 * (n + 1) * (n + 1) * k) I w1 w2
      → IsBoundedRung n p q w k (rung_of n I w1 w2)
  IsBoundedRung-rung_of k I w1 w2 at =
      let few : k ≤ n = omega (arith, at.size, IsSet-length n I (lp.sets I at.first.passes)) in
      let most = mul-le-mul_left (2 * 10 ^ 12 * (n + 1) * (n + 1)) few in
      let within : (x : ℕ) → x < n → IsWeightWithin (split_bound n) (w1 x) × IsWeightWithin (split_bound n) (w2 x) = λ x l.
      parts_within n (weight_at w) w1 w2 largest_weight (2 * 10 ^ 12 * (n + 1) * (n + 1) * k) (split_bound n) x l (small x l) at.split (omega arith) in
      record {
        right = IsRung-rung_of k (2 * 10 ^ 12 * (n + 1) * (n + 1) * k) I w1 w2 at;
        first_bounded = AreWeightsWithin-weights_below (split_bound n) n w1 (λ x l. (within x l).0);
        second_bounded = AreWeightsWithin-weights_below (split_bound n) n w2 (λ x l. (within x l).1);
      }

-- ---- one rung after the other

-- rungs for the sizes from k on, and a cut of the size of the last
record IsLadderFrom (n : ℕ) (p q : List ℕ → Bool) (w : List Weight) (k : ℕ) (rungs : List Rung) (cut : List ℕ) : Type 0 where
  some : 0 < length rungs
  each : (i : ℕ) (rung : Rung) → slice_get rungs i ≡ Some rung → IsBoundedRung n p q w (k + i) rung
  last : (i : ℕ) → suc i ≡ length rungs → IsCut n p q (k + i) cut

IsLadderFrom-one : (n : ℕ) (p q : List ℕ → Bool) (w : List Weight) (k : ℕ) (rung : Rung) (cut : List ℕ) → IsBoundedRung n p q w k rung
    → IsCut n p q k cut → IsLadderFrom n p q w k (rung ∷ []) cut
IsLadderFrom-one n p q w k rung cut b c = record { some = omega arith; each = each; last = λ i e. subst (λ j. IsCut n p q j cut) (omega arith) c }
  where
    each : (i : ℕ) (r : Rung) → slice_get (rung ∷ []) i ≡ Some r → IsBoundedRung n p q w (k + i) r
    each zero r e = subst (λ j. IsBoundedRung n p q w j r) (omega arith) (subst (IsBoundedRung n p q w k) (same_Some rung r e) b)
    each (suc i) r e = absurd (none-some r e)

IsLadderFrom-cons : (n : ℕ) (p q : List ℕ → Bool) (w : List Weight) (k : ℕ) (rung : Rung) (rest : List Rung) (cut : List ℕ)
    → IsBoundedRung n p q w k rung → IsLadderFrom n p q w (suc k) rest cut → IsLadderFrom n p q w k (rung ∷ rest) cut
IsLadderFrom-cons n p q w k rung rest cut b l = record { some = omega arith; each = each; last = last }
  where
    each : (i : ℕ) (r : Rung) → slice_get (rung ∷ rest) i ≡ Some r → IsBoundedRung n p q w (k + i) r
    each zero r e = subst (λ j. IsBoundedRung n p q w j r) (omega arith) (subst (IsBoundedRung n p q w k) (same_Some rung r e) b)
    each (suc i) r e = subst (λ j. IsBoundedRung n p q w j r) (omega arith) (l.each i r e)

    last : (i : ℕ) → suc i ≡ suc (length rest) → IsCut n p q (k + i) cut
    last zero e = absurd (let some = l.some in omega arith)
    last (suc i) e = subst (λ j. IsCut n p q j cut) (omega arith) (l.last i (omega arith))

-- the ladder from k on
abbrev SomeLadder : ℕ → (List ℕ → Bool) → (List ℕ → Bool) → List Weight → ℕ → Type 0
SomeLadder n p q w k = (rungs : List Rung) × (cut : List ℕ) × IsLadderFrom n p q w k rungs cut

module _ {n : ℕ} {p q : List ℕ → Bool} (lp : IsMatroid n p) (lq : IsMatroid n q) (w : List Weight)
    (small : (x : ℕ) → x < n → IsWeightWithin largest_weight (weight_at w x)) where
  ladder_from : (d k : ℕ) (I : List ℕ) (w1 w2 : ℕ → Weight) → d + k ≡ suc n
      → IsSplitAt n p q (weight_at w) k (2 * 10 ^ 12 * (n + 1) * (n + 1) * k) I w1 w2 → SomeLadder n p q w k
  ladder_from zero k I w1 w2 e at = absurd (omega (arith, at.size, IsSet-length n I (lp.sets I at.first.passes)))
  ladder_from (suc d) k I w1 w2 e at =
      let base = 2 * 10 ^ 12 * (n + 1) * (n + 1) * k in
      let here = IsBoundedRung-rung_of lp lq w small k I w1 w2 at in
      let own : IsSplitAt n p q (weight_at w) (length I) base I w1 w2 = record { size = refl; first = at.first; second = at.second; split = at.split } in
      elim (next_or_cut lp lq (weight_at w) base small I w1 w2 own) [
        | inr cut ↦ (
          rung_of n I w1 w2 ∷ [],
          cut.0,
          IsLadderFrom-one n p q w k (rung_of n I w1 w2) cut.0 here
              (subst (λ j. IsCut n p q j cut.0) at.size cut.1),
        )
        | inl next ↦
            let t = next.3 in
            let rest = ladder_from d (suc k) next.0 next.1 next.2 (omega arith) (record {
              size = t.size ∙ ap suc at.size;
              first = t.first;
              second = t.second;
              split = subst (IsSplitWithin n (weight_at w) next.1 next.2) (omega arith) t.split;
            }) in
            (rung_of n I w1 w2 ∷ rest.0, rest.1, IsLadderFrom-cons n p q w k (rung_of n I w1 w2) rest.0 rest.1 here rest.2)
      ]

  -- the empty set, under the whole weight and nothing
  pub IsSplitAt-nil : IsSplitAt n p q (weight_at w) 0 (2 * 10 ^ 12 * (n + 1) * (n + 1) * 0) [] (weight_at w) (λ x. zero_weight)
  IsSplitAt-nil = record {
    size = refl;
    first = IsHeaviest-nil lp (weight_at w);
    second = IsHeaviest-nil lq (λ x. zero_weight);
    split = record { adds = λ x l. omega (arith, ints, pairs); within = λ x l. omega (arith, ints) };
  }

  ladder_exists_within : (rungs : List Rung) × (cut : List ℕ) × IsLadder n p q w rungs cut
  ladder_exists_within =
      let all = ladder_from (suc n) 0 [] (weight_at w) (λ x. zero_weight) (omega arith) IsSplitAt-nil in
      let l = all.2 in (
        all.0,
        all.1,
        record {
          some = l.some;
          each = λ k rung e. subst (λ j. IsBoundedRung n p q w j rung) (omega arith) (l.each k rung e);
          last = λ k e. subst (λ j. IsCut n p q j all.1) (omega arith) (l.last k e);
        },
      )

-- every pair of matroids has a ladder
pub ladder_exists : {n : ℕ} {p q : List ℕ → Bool} → IsMatroid n p → IsMatroid n q → (w : List Weight) → length w ≡ n → AreWeightsWithin largest_weight w
    → (rungs : List Rung) × (cut : List ℕ) × IsLadder n p q w rungs cut
ladder_exists lp lq w long small = ladder_exists_within lp lq w (λ x l. All-get_or (IsWeightWithin largest_weight) w x zero_weight (omega arith) small)
