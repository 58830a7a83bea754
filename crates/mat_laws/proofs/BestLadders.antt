-- What a ladder proves. A set weighs what its two parts of the weights add up to, and a rung's set is heaviest in each part, so it is
-- heaviest in the sum. A common independent set lies in part outside the cut and in part inside it, and the ranks bound both parts.
use Rattle.mat_laws.proofs.Common.{◌≡◌, ℕ, suc, pred, ◌<◌, ◌≤◌, Bool, true, List, length, sym, ◌∙◌, arith, ints, IsSet, minus, intersection, all_below, IsRising-minus, IsRising-intersection, minus-both, minus-IsSubset, intersection-left, intersection-right, length-minus-intersection}
use Rattle.mat_laws.proofs.Common.{weight_sum-plus, below_member, IsRising-all_below, IsSubset-all_below, ◌⊕◌, weight, weight_at, Weight, pairs, IsMatroid}
use Rattle.mat_laws.specs.Ladders.{IsRung, IsCut}
use Rattle.mat_laws.proofs.RankLaws.{rank_is}
use Rattle.mat_laws.specs.CommonSets.{IsHeaviestCommon}

-- a set weighs what the two parts of a split give it
pub split_weight : (n : ℕ) (p q : List ℕ → Bool) (w : List Weight) (k : ℕ) (set : List ℕ) (first second : List Weight)
    → IsRung n p q w k set first second → (X : List ℕ) → IsSet n X → weight w X ≡ weight first X ⊕ weight second X
split_weight n p q w k set first second r X s =
    weight_sum-plus (weight_at w) (weight_at first) (weight_at second) X (λ e m. sym (r.split e (below_member s m)))

module _ {n : ℕ} {p q : List ℕ → Bool} (lp : IsMatroid n p) (lq : IsMatroid n q) where
  -- the set of a rung is heaviest of its size among the common independent sets
  pub rung_is_heaviest : (w : List Weight) (k : ℕ) (set : List ℕ) (first second : List Weight) → IsRung n p q w k set first second
      → IsHeaviestCommon p q w k set
  rung_is_heaviest w k set first second r = record {
    size = r.size;
    in_first = r.first_heaviest.passes;
    in_second = r.second_heaviest.passes;
    most = λ Y in_p in_q size.
        let here = split_weight n p q w k set first second r set (lp.sets set r.first_heaviest.passes) in
        let there = split_weight n p q w k set first second r Y (lp.sets Y in_p) in
        let first_most = r.first_heaviest.most Y in_p (size ∙ sym r.size) in
        let second_most = r.second_heaviest.most Y in_q (size ∙ sym r.size) in
        omega (arith, ints, pairs);
  }

  -- no common independent set has more elements than the ranks of a cut add up to (Edmonds' bound)
  pub cut_bounds : (k : ℕ) (cut : List ℕ) → IsCut n p q k cut → (X : List ℕ) → p X ≡ true → q X ≡ true → length X ≤ k
  cut_bounds k cut c X in_p in_q =
      let set = lp.sets X in_p in
      let outside = minus X cut in
      let inside = intersection X cut in
      let first = rank_is lp (minus (all_below n) cut) (IsRising-minus _ cut (IsRising-all_below n)) in
      let second = rank_is lq cut c.set.rising in
      let p_ok : p outside ≡ true = lp.subsets outside X (IsRising-minus X cut set.rising) (minus-IsSubset X cut) in_p in
      let q_ok : q inside ≡ true = lq.subsets inside X (IsRising-intersection X cut set.rising) (intersection-left X cut) in_q in
      omega (
        arith,
        c.ranks,
        length-minus-intersection X cut set.rising,
        first.most outside p_ok (minus-both X (all_below n) cut (IsSubset-all_below n X set.below)),
        second.most inside q_ok (intersection-right X cut),
      )

  -- so no common independent set has as many elements as a ladder has rungs
  pub fewer_than_rungs : (m : ℕ) (cut : List ℕ) → 0 < m → ((k : ℕ) → suc k ≡ m → IsCut n p q k cut)
      → (X : List ℕ) → p X ≡ true → q X ≡ true → length X < m
  fewer_than_rungs m cut some last X in_p in_q =
      let most = cut_bounds (pred m) cut (last (pred m) (omega arith)) X in_p in_q in
      omega arith
