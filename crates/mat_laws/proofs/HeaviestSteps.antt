-- From a heaviest set to one of one more element. Each independent J of one more element has an e that can be added to I; J - e is
-- as large as I, so it weighs no more than I, and J weighs no more than I and the heaviest element that can be added.
use Rattle.mat_laws.proofs.Common.{◌≡◌, ℕ, suc, Bool, true, false, List, [], ◌∷◌, length, arith, ints, is_member, with_one, without_one, zero_weight, ◌⊕◌, ◌≼◌, weight_sum, Weight, length-with_one, length-without_one, weight_sum-with_one, weight_sum-without_one, pairs, IsMatroid, IsHeaviest}
use Rattle.mat_laws.proofs.Independent.{rising, less_one}

weightless : (w : ℕ → Weight) (X : List ℕ) → length X ≡ 0 → weight_sum w X ≼ zero_weight
weightless w [] e = omega (arith, ints, pairs)
weightless w (x ∷ xs) e = absurd (omega arith)

module _ {n : ℕ} {p : List ℕ → Bool} (laws : IsMatroid n p) where
  -- the empty set is heaviest of its size
  pub IsHeaviest-nil : (w : ℕ → Weight) → IsHeaviest p w []
  IsHeaviest-nil w = record { passes = laws.empty; most = λ Y y e. weightless w Y e }

  -- where no element that can be added to I weighs more than top, an independent set of one more element weighs at most top more
  pub one_more_weighs : (w : ℕ → Weight) (I J : List ℕ) (top : Weight) → IsHeaviest p w I
      → ((e : ℕ) → is_member e I ≡ false → p (with_one I e) ≡ true → w e ≼ top)
      → p J ≡ true → length J ≡ suc (length I) → weight_sum w J ≼ (weight_sum w I ⊕ top)
  one_more_weighs w I J top best most j size =
      let a = laws.augmentation I J best.passes j (omega arith) in
      let r = rising laws J j in
      let long = length-without_one J a.element r a.inside in
      let rest = best.most (without_one J a.element) (less_one laws J a.element j) (omega arith) in
      let added = most a.element a.outside a.augmented in
      let total = weight_sum-without_one w J a.element r a.inside in
      omega (arith, ints, pairs)

  -- I with a heaviest element that can be added is heaviest of its size
  pub IsHeaviest-with_one : (w : ℕ → Weight) (I : List ℕ) (x : ℕ) → IsHeaviest p w I → is_member x I ≡ false → p (with_one I x) ≡ true
      → ((e : ℕ) → is_member e I ≡ false → p (with_one I e) ≡ true → w e ≼ w x) → IsHeaviest p w (with_one I x)
  IsHeaviest-with_one w I x best out ok most =
      let r = rising laws I best.passes in
      record {
        passes = ok;
        most = λ J j size. (let long = length-with_one I x r out in
            let total = one_more_weighs w I J (w x) best most j (omega arith) in
            let sum = weight_sum-with_one w I x r out in
            omega (arith, ints, pairs));
      }
