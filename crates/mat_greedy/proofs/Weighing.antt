-- What the greedy loop keeps where only weights are kept: there are sets as the loop over sets keeps them, these are their weights,
-- and the sum is the weight of the set.
use Rattle.mat_greedy.proofs.Common.{◌≡◌, ℕ, ◌+◌, ◌*◌, ◌^◌, ◌<◌, ◌≤◌, Bool, true, false, not, ◌&&◌, if◌then◌else◌, List, [], ◌∷◌, ◌++◌, length, map, get_or, refl, sym, ap, ◌∙◌, ℤ, ◌+ℤ◌, FitsSigned, arith, and_parts, not-true, ints, map-append, is_member, with_one, ◌⊕◌, zero_weight, weight_at}
use Rattle.mat_greedy.proofs.Common.{weight_sum, AreWeightsWithin, Weight, IsSet-length, weight_within_at, IsMatroid, rising, grown_along, IsTracing, IsTracing-start, IsTracing-next, traced, IsFallingOrder, AreHeaviestWeights}
use Rattle.std.specs.Int.{w128}
use Rattle.mat_sets.specs.Limits.{largest_number, most_elements}
use Rattle.mat_sets.specs.Sums.{sum_of, IsWithin}
use Rattle.mat_sets.proofs.WeightSums.{weight_sum-with_one}
use Rattle.mat_greedy.proofs.Climbing.{IsClimbing, IsClimbing-start, IsClimbing-next, IsClimbing-end}

-- ---- sums that fit

sum_within : (f : ℕ → ℤ) → ((k : ℕ) → IsWithin largest_number (f k)) → (xs : List ℕ) → IsWithin (10 ^ 30 * length xs) (sum_of f xs)
sum_within f each [] = (omega (arith, ints), omega (arith, ints))
sum_within f each (x ∷ xs) =
    let here = each x in
    let rest = sum_within f each xs in
    (omega (arith, ints), omega (arith, ints))

both_fit : (m : ℕ) (a b : ℤ) → m ≤ most_elements → IsWithin (10 ^ 30 * m) a → IsWithin largest_number b → FitsSigned w128 (a +ℤ b)
both_fit m a b few small step = omega (arith, ints)

-- the weight of at most 500 members, and one more
pub weights_fit : (weights : List Weight) → AreWeightsWithin largest_number weights → (set : List ℕ) → length set ≤ most_elements → (a : Weight)
    → a ≡ weight_sum (weight_at weights) set → (x : ℕ)
    → FitsSigned w128 (a.main +ℤ (weight_at weights x).main) × FitsSigned w128 (a.tie +ℤ (weight_at weights x).tie)
weights_fit weights small set few a e x =
    let w = weight_at weights in
    let each = weight_within_at largest_number weights small in
    rw e (
      both_fit (length set) (sum_of (λ k. (w k).main) set) (w x).main few (sum_within (λ k. (w k).main) (λ k. (each k).0) set) (each x).0,
      both_fit (length set) (sum_of (λ k. (w k).tie) set) (w x).tie few (sum_within (λ k. (w k).tie) (λ k. (each k).1) set) (each x).1,
    )

-- ---- the loop

-- after the first i elements of the order: the set and its weight, and the weights of heaviest sets of each size up to its own
pub record IsWeighing (p : List ℕ → Bool) (w : ℕ → Weight) (order : List ℕ) (i : ℕ) (set : List ℕ) (sum : Weight) (sums : List Weight)
    : Type 0 where
  pub sets : List (List ℕ)
  pub climbing : IsClimbing p w order i set sets
  pub weight : sum ≡ weight_sum w set
  pub weighed : sums ≡ map (weight_sum w) sets

module _ {n : ℕ} {p : List ℕ → Bool} (laws : IsMatroid n p) where
  pub IsWeighing-start : (w : ℕ → Weight) (order : List ℕ) → IsWeighing p w order 0 [] zero_weight (zero_weight ∷ [])
  IsWeighing-start w order = record { sets = [] ∷ []; climbing = IsClimbing-start laws w order; weight = refl; weighed = refl }

  -- the set has no more members than there are elements
  pub weighing_few : (w : ℕ → Weight) (order set : List ℕ) (sum : Weight) (sums : List Weight) (i : ℕ) → IsWeighing p w order i set sum sums
      → length set ≤ n
  weighing_few w order set sum sums i g = IsSet-length n set (laws.sets set g.climbing.heaviest.passes)

  module _ (weights : List Weight) (order set : List ℕ) (sum : Weight) (sums : List Weight) (i x : ℕ) (size : n ≡ length weights)
      (falling : IsFallingOrder weights order) (inside : i < length order) (at : x ≡ get_or order i 0)
      (g : IsWeighing p (weight_at weights) order i set sum sums) (added : Bool) (set' : List ℕ)
      (told : added ≡ (not (is_member x set) && p (with_one set x))) (set_is : set' ≡ (if added then with_one set x else set)) where
    pub IsWeighing-stay : added ≡ false → IsWeighing p (weight_at weights) order (i + 1) set' sum sums
    IsWeighing-stay stays =
        let kept : set' ≡ set = set_is ∙ ap (λ b. if b then with_one set x else set) stays in record {
          sets = g.sets;
          climbing = IsClimbing-next laws weights order set g.sets i x size falling inside at g.climbing added set' g.sets told set_is
              (sym (ap (λ b. if b then g.sets ++ set' ∷ [] else g.sets) stays));
          weight = g.weight ∙ ap (weight_sum (weight_at weights)) (sym kept);
          weighed = g.weighed;
        }

    pub IsWeighing-more : added ≡ true → (sum' : Weight) → sum' ≡ sum ⊕ weight_at weights x
        → IsWeighing p (weight_at weights) order (i + 1) set' sum' (sums ++ sum' ∷ [])
    IsWeighing-more grows sum' after =
        let w = weight_at weights in
        let parts = and_parts (not (is_member x set)) (p (with_one set x)) (sym told ∙ grows) in
        let grown : set' ≡ with_one set x = set_is ∙ ap (λ b. if b then with_one set x else set) grows in
        let more = weight_sum-with_one w set x (rising laws set g.climbing.heaviest.passes) (not-true (is_member x set) parts.0) in
        let heavy : sum' ≡ weight_sum w set' =
        after ∙ ap (λ (a : Weight). a ⊕ w x) g.weight ∙ sym more ∙ ap (weight_sum w) (sym grown) in record {
          sets = g.sets ++ set' ∷ [];
          climbing = IsClimbing-next laws weights order set g.sets i x size falling inside at g.climbing added set' (g.sets ++ set' ∷ [])
              told set_is
              (sym (ap (λ b. if b then g.sets ++ set' ∷ [] else g.sets) grows));
          weight = heavy;
          weighed = ap (λ s. s ++ sum' ∷ []) g.weighed ∙ ap (λ (a : Weight). map (weight_sum w) g.sets ++ a ∷ []) heavy
              ∙ sym (map-append (weight_sum w) g.sets (set' ∷ []));
        }

  pub IsWeighing-end : (weights : List Weight) (order set : List ℕ) (sum : Weight) (sums : List Weight) (i : ℕ) → n ≡ length weights
      → IsFallingOrder weights order → length order ≤ i
      → IsWeighing p (weight_at weights) order i set sum sums → AreHeaviestWeights n p (weight_at weights) sums
  IsWeighing-end weights order set sum sums i size falling l g = record {
    sets = g.sets;
    heaviest = IsClimbing-end laws weights order set g.sets i size falling l g.climbing;
    weighed = g.weighed;
  }

-- ---- the loop over the members of the set at the end

-- there is a set, as the loop that adds element after element has it, whose weights these are
pub record IsSumming (p : List ℕ → Bool) (w : ℕ → Weight) (order : List ℕ) (i : ℕ) (sum : Weight) (sums : List Weight) : Type 0 where
  pub set : List ℕ
  pub weighing : IsWeighing p w order i set sum sums
  pub tracing : IsTracing p order i set

module _ {n : ℕ} {p : List ℕ → Bool} (laws : IsMatroid n p) where
  pub IsSumming-start : (weights : List Weight) (order : List ℕ) → IsFallingOrder weights order
      → IsSumming p (weight_at weights) order 0 zero_weight (zero_weight ∷ [])
  IsSumming-start weights order falling = record {
    set = [];
    weighing = IsWeighing-start laws (weight_at weights) order;
    tracing = IsTracing-start p order laws.empty falling.distinct;
  }

  module _ (weights : List Weight) (order : List ℕ) (sum : Weight) (sums : List Weight) (i x : ℕ) (size : n ≡ length weights)
      (falling : IsFallingOrder weights order) (inside : i < length order) (at : x ≡ get_or order i 0)
      (g : IsSumming p (weight_at weights) order i sum sums) (all : List ℕ) (run : all ≡ grown_along p [] order) where
    told : is_member x all ≡ (not (is_member x g.set) && p (with_one g.set x))
    told = ap (is_member x) run ∙ traced laws order g.set i x inside at g.tracing

    next : List ℕ
    next = if is_member x all then with_one g.set x else g.set

    pub IsSumming-stay : is_member x all ≡ false → IsSumming p (weight_at weights) order (i + 1) sum sums
    unfolding next
    IsSumming-stay out = record {
      set = next;
      weighing = IsWeighing-stay laws weights order g.set sum sums i x size falling inside at g.weighing (is_member x all) next told refl out;
      tracing = IsTracing-next laws order g.set i x inside at g.tracing (is_member x all) next told refl;
    }

    pub IsSumming-more : is_member x all ≡ true → (sum' : Weight) → sum' ≡ sum ⊕ weight_at weights x
        → IsSumming p (weight_at weights) order (i + 1) sum' (sums ++ sum' ∷ [])
    unfolding next
    IsSumming-more here sum' after = record {
      set = next;
      weighing = IsWeighing-more laws weights order g.set sum sums i x size falling inside at g.weighing (is_member x all) next told refl here
          sum' after;
      tracing = IsTracing-next laws order g.set i x inside at g.tracing (is_member x all) next told refl;
    }
