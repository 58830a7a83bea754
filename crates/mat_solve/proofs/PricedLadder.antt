-- Ladders of two matroids as answers: the weight of each set is in range, since it has at most as many elements as there are, and so
-- are the numbers of each split, within the bound for as many elements.
use Rattle.mat_solve.proofs.Common.{◌≡◌, ℕ, zero, suc, ◌+◌, ◌-◌, ◌*◌, ◌^◌, ◌<◌, ◌≤◌, Bool, List, [], ◌∷◌, length, true, get_or, Some, refl, sym, arith, map, slice_get, length-map, same_Some, slice_get-get_or, mul-le, most_elements, largest_weight, largest_number, IsSet, AreWeightsWithin, Weight}
use Rattle.mat_solve.proofs.Common.{IsSet-length, IsMatroid, IsCut, split_bound, Tree, is_independent, Rung, IsBoundedRung, IsLadder, IsValid, pair, IsSoundInstance, IsRangedPart, IsRangedPricedRung, IsRangedLadder, intersect, last_rung, IsRightLadder, laws_on_weights, IsSolution, HaveBoundedSplits}
use Rattle.mat_solve.proofs.Common.{priced_rung, HaveFewElements}
use Rattle.mat_solve.proofs.SetWeights.{set_in_range, weight_within_more}

-- ---- bounds

-- the bound on a split of at most 500 elements
pub split_bound-small : (n : ℕ) → n ≤ most_elements → split_bound n ≤ 3 * 10 ^ 20
split_bound-small n few =
    let a : 2 * 10 ^ 12 * (n + 1) ≤ 2 * 10 ^ 12 * 501 = omega arith in
    let b : 2 * 10 ^ 12 * (n + 1) * n ≤ 2 * 10 ^ 12 * 501 * 500 = mul-le (2 * 10 ^ 12 * (n + 1)) n (2 * 10 ^ 12 * 501) 500 a few in
    let c : 2 * 10 ^ 12 * (n + 1) * n * (n + 1) ≤ 2 * 10 ^ 12 * 501 * 500 * 501 = mul-le (2 * 10 ^ 12 * (n + 1) * n) (n + 1)
    (2 * 10 ^ 12 * 501 * 500) 501 b (omega arith) in
    omega arith

pub split_bound-less : (n : ℕ) → n ≤ most_elements → split_bound n ≤ 10 ^ 30
split_bound-less n few =
    let small = split_bound-small n few in
    omega arith

-- a part of a split within the bound is in range
pub ranged_part : (n : ℕ) (part : List Weight) → n ≤ most_elements → length part ≡ n → AreWeightsWithin (split_bound n) part → IsRangedPart n part
ranged_part n part few size bounded = record {
  size = size;
  weights = λ e d lt. weight_within_more (split_bound n) largest_number (get_or part e d) (split_bound-less n few) (bounded e d lt);
}

-- ---- rungs

-- an independent set is a set on n elements, and has no more of them
pub set_is : {n : ℕ} {p : List ℕ → Bool} → IsMatroid n p → (X : List ℕ) → p X ≡ true → IsSet n X × (length X ≤ n)
set_is {n} laws X passes = let set = laws.sets X passes in (set, IsSet-length n X set)

-- what stands in a mapped list is mapped from what stands there in the list
pub mapped_at : {A B : Type 0} (f : A → B) (xs : List A) (k : ℕ) (y : B) → slice_get (map f xs) k ≡ Some y
    → (x : A) × (slice_get xs k ≡ Some x) × (y ≡ f x)
mapped_at f [] k y at = absurd cc
mapped_at f (x ∷ xs) zero y at = (x, refl, sym (same_Some (f x) y at))
mapped_at f (x ∷ xs) (suc k) y at = mapped_at f xs k y at

module _ {n : ℕ} {p q : List ℕ → Bool} (laws : IsMatroid n p) {w : List Weight} (few : n ≤ most_elements) (small : AreWeightsWithin largest_weight w) where
  ranged_rung : (k : ℕ) (rung : Rung) → IsBoundedRung n p q w k rung → IsRangedPricedRung n k (priced_rung w rung)
  ranged_rung k rung r =
      let set = set_is laws rung.set r.right.first_heaviest.passes in (
        record { weight_in_range = set_in_range w rung.set small (omega (arith, set.1)); set_in_range = set.0; size = r.right.size },
        ranged_part n rung.first few r.right.first_length r.first_bounded,
        ranged_part n rung.second few r.right.second_length r.second_bounded,
      )

  -- a rung at its place
  rung_at : (rungs : List Rung) (cut : List ℕ) → IsLadder n p q w rungs cut → (k : ℕ) → k < length rungs
      → (rung : Rung) × IsBoundedRung n p q w k rung
  rung_at (first ∷ rungs) cut ladder k lt =
      let rung = get_or (first ∷ rungs) k first in
      (rung, ladder.each k rung (slice_get-get_or (first ∷ rungs) k first lt))
  rung_at [] cut ladder k lt = absurd (omega arith)

  -- there are at most n + 1 rungs
  few_rungs : (rungs : List Rung) (cut : List ℕ) → IsLadder n p q w rungs cut → length rungs ≤ n + 1
  few_rungs rungs cut ladder =
      let some = ladder.some in
      let last = rung_at rungs cut ladder (length rungs - 1) (omega arith) in
      omega (arith, (set_is laws last.0.set last.1.right.first_heaviest.passes).1, last.1.right.size)

  pub few_elements : (rungs : List Rung) (cut : List ℕ) → IsLadder n p q w rungs cut → HaveFewElements n rungs
  few_elements rungs cut ladder = λ k d lt.
      let rung = ladder.each k (get_or rungs k d) (slice_get-get_or rungs k d lt) in
      let set = set_is laws (get_or rungs k d).set rung.right.first_heaviest.passes in
      (set.0.below, omega (arith, set.1))

-- ---- ladders

module _ {n : ℕ} {p q : List ℕ → Bool} (laws : IsMatroid n p) {w : List Weight} (few : n ≤ most_elements) (small : AreWeightsWithin largest_weight w)
    (rungs : List Rung) (cut : List ℕ) (ladder : IsLadder n p q w rungs cut) where
  rungs_count : length (map (priced_rung w) rungs) ≡ length rungs
  rungs_count = length-map rungs (priced_rung w)

  some_rung : 0 < length (map (priced_rung w) rungs)
  some_rung = omega (arith, rungs_count, ladder.some)

  cut_at_end : IsCut n p q (last_rung (map (priced_rung w) rungs)) cut
  cut_at_end = (let count = rungs_count in let some = some_rung in ladder.last _ (omega arith))

  -- the rungs with the weights of their sets, and the cut, are in range
  pub priced_ranged : IsRangedLadder n (map (priced_rung w) rungs) cut
  priced_ranged = (
    record {
      few = few;
      some = some_rung;
      no_more = omega (arith, few_rungs laws few small rungs cut ladder, rungs_count);
      each = λ k priced at. (let r = mapped_at (priced_rung w) rungs k priced at in rw r.2 (ranged_rung laws few small k r.0 (ladder.each k r.0 r.1)));
    },
    cut_at_end.set,
  )

  -- they are right
  pub priced_right : IsRightLadder n p q w (map (priced_rung w) rungs) cut
  priced_right = record {
    some = some_rung;
    each = λ k priced at. (let r = mapped_at (priced_rung w) rungs k priced at in rw r.2 (record { priced = refl; right = (ladder.each k r.0 r.1).right }));
    ends = cut_at_end;
  }

  -- the numbers of their splits are within the bound
  pub priced_bounded : HaveBoundedSplits n (map (priced_rung w) rungs)
  priced_bounded k priced at =
      let r = mapped_at (priced_rung w) rungs k priced at in
      let b = ladder.each k r.0 r.1 in
      rw r.2 (b.first_bounded, b.second_bounded)

-- ---- two matroids

module _ (w : List Weight) (first second : Tree) (valid : IsValid (pair w first second)) (sound : IsSoundInstance (pair w first second))
    (rungs : List Rung) (cut : List ℕ) (found : IsLadder (length w) (is_independent first) (is_independent second) w rungs cut) where
  first_laws : IsMatroid (length w) (is_independent first)
  first_laws = laws_on_weights w first sound.0 sound.1

  -- the sets of the rungs have few elements
  pub pair_few : HaveFewElements (length w) rungs
  pair_few = few_elements first_laws valid.0.0 valid.0.1 rungs cut found

  -- the ladder, with the weights of its sets, is a solution
  pub pair_solution : IsSolution (pair w first second) (intersect (length w) (map (priced_rung w) rungs) cut)
  pair_solution = record {
    ranged = priced_ranged first_laws valid.0.0 valid.0.1 rungs cut found;
    right = (refl, priced_right first_laws valid.0.0 valid.0.1 rungs cut found);
    bounded = priced_bounded first_laws valid.0.0 valid.0.1 rungs cut found;
  }
