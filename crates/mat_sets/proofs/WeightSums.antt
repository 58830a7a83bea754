-- Sums of weights over the sets made of others: each law holds of the mains and of the ties.
use Rattle.mat_sets.proofs.Common.{List, true, false, arith, length, ℕ, ◌+◌, ◌<◌, ◌≡◌, get_or, take, ints, IsRising, is_member, with_one, without_one, Weight, ◌⊕◌, weight_sum}
use Rattle.mat_sets.proofs.Cardinalities.{sum_of-with_one, sum_of-without_one, sum_of-exchange_one, sum_of-plus, sum_of-same}
use Rattle.mat_sets.proofs.Sums.{sum_of-more}
use Rattle.mat_sets.proofs.WeightOrder.{pairs, parts}

pub weight_sum-with_one : (w : ℕ → Weight) (a : List ℕ) (x : ℕ) → IsRising a → is_member x a ≡ false
    → weight_sum w (with_one a x) ≡ weight_sum w a ⊕ w x
weight_sum-with_one w a x r h =
    let main = sum_of-with_one (λ k. (w k).main) a x r h in
    let tie = sum_of-with_one (λ k. (w k).tie) a x r h in
    omega (arith, ints, pairs)

pub weight_sum-without_one : (w : ℕ → Weight) (a : List ℕ) (x : ℕ) → IsRising a → is_member x a ≡ true
    → weight_sum w (without_one a x) ⊕ w x ≡ weight_sum w a
weight_sum-without_one w a x r h =
    let main = sum_of-without_one (λ k. (w k).main) a x r h in
    let tie = sum_of-without_one (λ k. (w k).tie) a x r h in
    omega (arith, ints, pairs)

-- an exchange: a - y + x
pub weight_sum-exchange_one : (w : ℕ → Weight) (a : List ℕ) (x y : ℕ) → IsRising a → is_member y a ≡ true
    → is_member x a ≡ false → weight_sum w (with_one (without_one a y) x) ⊕ w y ≡ weight_sum w a ⊕ w x
weight_sum-exchange_one w a x y r hy hx =
    let main = sum_of-exchange_one (λ k. (w k).main) a x y r hy hx in
    let tie = sum_of-exchange_one (λ k. (w k).tie) a x y r hy hx in
    omega (arith, ints, pairs)

-- a split of the weights
pub weight_sum-plus : (w v u : ℕ → Weight) (a : List ℕ) → ((k : ℕ) → is_member k a ≡ true → w k ≡ v k ⊕ u k)
    → weight_sum w a ≡ weight_sum v a ⊕ weight_sum u a
weight_sum-plus w v u a e =
    let main = sum_of-plus (λ k. (w k).main) (λ k. (v k).main) (λ k. (u k).main) a (λ k m. (parts (e k m)).0) in
    let tie = sum_of-plus (λ k. (w k).tie) (λ k. (v k).tie) (λ k. (u k).tie) a (λ k m. (parts (e k m)).1) in
    omega (arith, ints, pairs)

pub weight_sum-same : (w v : ℕ → Weight) (a : List ℕ) → ((k : ℕ) → is_member k a ≡ true → w k ≡ v k)
    → weight_sum w a ≡ weight_sum v a
weight_sum-same w v a e =
    let main = sum_of-same (λ k. (w k).main) (λ k. (v k).main) a (λ k m. (parts (e k m)).0) in
    let tie = sum_of-same (λ k. (w k).tie) (λ k. (v k).tie) a (λ k m. (parts (e k m)).1) in
    omega (arith, ints, pairs)

-- a sum that is read from the front
pub weight_sum-more : (w : ℕ → Weight) (xs : List ℕ) (i : ℕ) → i < length xs
    → weight_sum w (take (i + 1) xs) ≡ weight_sum w (take i xs) ⊕ w (get_or xs i 0)
weight_sum-more w xs i h =
    let main = sum_of-more (λ k. (w k).main) xs i h in
    let tie = sum_of-more (λ k. (w k).tie) xs i h in
    omega (arith, ints, pairs)
