-- A locally heaviest set is heaviest of its size. By induction on how many elements a rival J has outside I: take one, x, and exchange
-- it symmetrically for some y of I. I - y + x weighs no more than I, so J - x + y weighs no less than J, and is nearer to I.
use Rattle.mat_laws.proofs.Common.{◌≡◌, ℕ, suc, zero, Bool, true, false, not, List, [], ◌∷◌, length, refl, sym, ap, ◌∙◌, arith, and_parts, not-true, ints, is_member, IsRising, IsSubset, with_one, without_one, minus, ◌≼◌, weight_sum, Weight, set_members, same_members, is_member-head, is_member-minus}
use Rattle.mat_laws.proofs.Common.{IsRising-minus, IsRising-without_one, same_size_subset, length-without_one, length-exchange_one, weight_sum-exchange_one, pairs, no_member, IsMatroid, IsHeaviest, IsLocallyHeaviest}
use Rattle.mat_laws.proofs.Independent.{rising}
use Rattle.mat_laws.proofs.Symmetric.{symmetric_exchange, IsRising-exchange, exchange-IsSubset}

-- after J - x + y, with x outside I and y in I, the elements outside I are those before but x
outside_after : (I J : List ℕ) (x y : ℕ) → IsRising J → is_member y I ≡ true → is_member x I ≡ false
    → minus (with_one (without_one J x) y) I ≡ without_one (minus J I) x
outside_after I J x y r y_in x_out =
    same_members _ _ (IsRising-minus _ I (IsRising-exchange J y x r)) (IsRising-without_one _ x (IsRising-minus J I r)) (λ k. at k)
  where
    at : (k : ℕ) → is_member k (minus (with_one (without_one J x) y) I) ≡ is_member k (without_one (minus J I) x)
    at k = grind (arith, set_members)

first_member : (X : List ℕ) (d : ℕ) → length X ≡ suc d → (x : ℕ) × (is_member x X ≡ true)
first_member [] d e = absurd (omega arith)
first_member (x ∷ xs) d e = (x, is_member-head x xs)

none_outside : (I J : List ℕ) → length (minus J I) ≡ 0 → IsSubset J I
none_outside I J e = record { inside = λ k m. at k m (no_member (minus J I) k e) }
  where
    at : (k : ℕ) → is_member k J ≡ true → is_member k (minus J I) ≡ false → is_member k I ≡ true
    at k m h = grind (arith, set_members)

module _ {n : ℕ} {p : List ℕ → Bool} (laws : IsMatroid n p) where
  lighter : (w : ℕ → Weight) (I : List ℕ) → IsLocallyHeaviest p w I → (d : ℕ) (J : List ℕ) → length (minus J I) ≡ d → p J ≡ true
      → length J ≡ length I → weight_sum w J ≼ weight_sum w I
  lighter w I best zero J e j size =
      let same : J ≡ I = same_size_subset J I (rising laws J j) (rising laws I best.passes) (none_outside I J e) (omega arith) in
      rw same (omega (arith, ints, pairs))
  lighter w I best (suc d) J e j size =
      let r = rising laws J j in
      let q = rising laws I best.passes in
      let some = first_member (minus J I) d e in
      let x = some.0 in
      let m = and_parts (is_member x J) (not (is_member x I)) (sym (is_member-minus x J I) ∙ some.1) in
      let x_out : is_member x I ≡ false = not-true (is_member x I) m.1 in
      let t = symmetric_exchange laws J I x j best.passes size m.0 x_out in
      let y = t.partner in
      let nearer = with_one (without_one J x) y in
      let fewer : length (minus nearer I) ≡ d =
      (let one = length-without_one (minus J I) x (IsRising-minus J I r) some.1 in omega (arith, ap length (outside_after I J x y r t.inside x_out))) in
      let long = length-exchange_one J y x r m.0 t.outside in
      let rest = lighter w I best d nearer fewer t.first (long ∙ size) in
      let gain = weight_sum-exchange_one w J y x r m.0 t.outside in
      let most = best.most x y t.inside x_out t.second in
      let loss = weight_sum-exchange_one w I x y q t.inside x_out in
      omega (arith, ints, pairs)

  -- locally heaviest is heaviest of its size
  pub locally_heaviest_is_heaviest : (w : ℕ → Weight) (I : List ℕ) → IsLocallyHeaviest p w I → IsHeaviest p w I
  locally_heaviest_is_heaviest w I best = record { passes = best.passes; most = λ J j size. lighter w I best (length (minus J I)) J refl j size }

  -- where each x that can take the place of a y weighs no more, I is heaviest of its size
  pub heaviest_from_exchanges : (w : ℕ → Weight) (I : List ℕ) → p I ≡ true
      → ((x y : ℕ) → is_member y I ≡ true → is_member x I ≡ false → p (with_one (without_one I y) x) ≡ true → w x ≼ w y) → IsHeaviest p w I
  heaviest_from_exchanges w I i h =
      locally_heaviest_is_heaviest w I (record {
        passes = i;
        most = λ x y m o ok. (let gain = weight_sum-exchange_one w I x y (rising laws I i) m o in let less = h x y m o ok in omega (arith, ints, pairs));
      })

  -- at a heaviest set, what can take the place of y weighs no more than y
  pub exchange_gains_nothing : (w : ℕ → Weight) (I : List ℕ) (x y : ℕ) → IsHeaviest p w I → is_member y I ≡ true → is_member x I ≡ false
      → p (with_one (without_one I y) x) ≡ true → w x ≼ w y
  exchange_gains_nothing w I x y best m o ok =
      let r = rising laws I best.passes in
      let most = best.most (with_one (without_one I y) x) ok (length-exchange_one I x y r m o) in
      let gain = weight_sum-exchange_one w I x y r m o in
      omega (arith, ints, pairs)

  -- what can be added to a heaviest set weighs no more than any member
  pub addable_is_lightest : (w : ℕ → Weight) (I : List ℕ) (x y : ℕ) → IsHeaviest p w I → is_member y I ≡ true → is_member x I ≡ false
      → p (with_one I x) ≡ true → w x ≼ w y
  addable_is_lightest w I x y best m o ok =
      exchange_gains_nothing w I x y best m o
      (laws.subsets _ (with_one I x) (IsRising-exchange I x y (rising laws I best.passes)) (exchange-IsSubset I x y) ok)
