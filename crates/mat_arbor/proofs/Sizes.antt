-- How large the numbers are: those of the costs, of the listed sets, of the held weights and of the two halves.
-- Idea: all listed weights together are the cost of the tree, which has at most as many arcs as there are, and a main is a number over the unit.
use Rattle.mat_arbor.proofs.Common.{◌≡◌, ℕ, ◌+◌, ◌*◌, ◌/◌, ◌^◌, ◌<◌, ◌≤◌, Bool, true, false, List, [], ◌∷◌, ◌++◌, length, length-append, get_or, ap, ◌∙◌, arith, below_more, ℤ, pos, neg_ℤ, ◌+ℤ◌, ◌-ℤ◌, ◌≤ℤ◌, ◌<ℤ◌, ints, get_or_append_left, get_or_push, div_below, mul-le, enters, largest_weight}
use Rattle.mat_arbor.proofs.Common.{IsWeightWithin, Weight, IsWideCost, all_weight, weight_on, weight_where, IsWeightedCut, CutWeight, split_bound, raised_value, tie_gap, weight_of, held_weight, holds, weight_around, AreHeldWeights, IsCutWithin}
use Rattle.std.proofs.Math.Nat.{div-le_self, div-mul-le_self}
use Rattle.std.specs.List.{AllByRecursion}
use Rattle.mat_cuts.specs.Limits.{cut_bound}
use Rattle.mat_arbor.proofs.Adding.{around_within}
use Rattle.mat_arbor.proofs.Exchanges.{around_head}
use Rattle.mat_arbor.proofs.Values.{times_le, times_negated}

-- ---- costs

pub raised_range : (u : ℕ) (w : Weight) → tie_gap ≤ u → IsWeightWithin largest_weight w
    → (pos 0 ≤ℤ raised_value u w) × (raised_value u w ≤ℤ pos (u * (2 * largest_weight + 2)))
raised_range u w some small =
    let high = times_le u w.main (pos largest_weight) small.0.1 in
    let low = times_le u (neg_ℤ (pos largest_weight)) w.main small.0.0 in
    let tie_high = small.1.1 in
    let tie_low = small.1.0 in (
      omega (arith, ints, times_negated u (pos largest_weight)),
      omega (arith, ints, times_negated u (pos largest_weight)),
    )

-- ---- listed sets

module _ (vertices root : ℕ) where
  weights_low : (cuts : List CutWeight) → AllByRecursion (IsWeightedCut vertices root) cuts → pos 0 ≤ℤ all_weight cuts
  weights_low [] each = omega (arith, ints)
  weights_low (c ∷ cuts) each = let positive = each.0.positive in omega (arith, ints, weights_low cuts each.1)

  -- each weight is at most all of them together
  pub cuts_within : (bound : ℕ) (cuts : List CutWeight) → AllByRecursion (IsWeightedCut vertices root) cuts → all_weight cuts ≤ℤ pos bound
      → AllByRecursion (IsCutWithin vertices bound) cuts
  cuts_within bound [] each most = tt
  cuts_within bound (c ∷ cuts) each most =
      let positive = each.0.positive in
      let rest = weights_low cuts each.1 in
      (record { set = each.0.root_free.set; small = (omega (arith, ints), omega (arith, ints)) }, cuts_within bound cuts each.1 (omega (arith, ints)))

  pub cuts_low : (cuts : List CutWeight) → AllByRecursion (IsWeightedCut vertices root) cuts → AllByRecursion (λ c. pos 0 ≤ℤ c.weight) cuts
  cuts_low [] each = tt
  cuts_low (c ∷ cuts) each = (let positive = each.0.positive in omega (arith, ints), cuts_low cuts each.1)

  where_low : (b : Bool) (w : ℤ) → pos 0 ≤ℤ w → pos 0 ≤ℤ weight_where b w
  where_low true w low = low
  where_low false w low = omega (arith, ints)

  pub held_low : (ends : ℕ → ℕ × ℕ) (cuts : List CutWeight) (a : ℕ) → AllByRecursion (λ c. pos 0 ≤ℤ c.weight) cuts → pos 0 ≤ℤ held_weight ends cuts a
  held_low ends [] a low = omega (arith, ints)
  held_low ends (c ∷ cuts) a low = omega (arith, ints, where_low (holds ends c.set a) c.weight low.0, held_low ends cuts a low.1)

  on_low : (ends : ℕ → ℕ × ℕ) (cuts : List CutWeight) (a : ℕ) → AllByRecursion (λ c. pos 0 ≤ℤ c.weight) cuts → pos 0 ≤ℤ weight_on ends cuts a
  on_low ends [] a low = omega (arith, ints)
  on_low ends (c ∷ cuts) a low = omega (arith, ints, where_low (enters ends c.set a) c.weight low.0, on_low ends cuts a low.1)

  where_most : (b : Bool) (w : ℤ) → pos 0 <ℤ w → weight_where b w ≤ℤ w
  where_most true w some = omega (arith, ints)
  where_most false w some = omega (arith, ints)

  pub held_most : (ends : ℕ → ℕ × ℕ) (cuts : List CutWeight) (a : ℕ) → AllByRecursion (IsWeightedCut vertices root) cuts
      → held_weight ends cuts a ≤ℤ all_weight cuts
  held_most ends [] a each = omega (arith, ints)
  held_most ends (c ∷ cuts) a each =
      omega (arith, ints, where_most (holds ends c.set a) c.weight each.0.positive, held_most ends cuts a each.1)

-- ---- halves

pub weight_of-within : (u s x bound : ℕ) → x + s ≤ bound → IsWeightWithin bound (weight_of u s x)
weight_of-within u s x bound small =
    let main = div-le_self (x + s) u in
    let back = div-mul-le_self (x + s) u in
    ((omega (arith, ints), omega (arith, ints)), (omega (arith, ints), omega (arith, ints)))

-- a main is at most what a tree of t arcs costs
pub main_most : (u s x c t : ℕ) → s < u → x ≤ u * c * t → (x + s) / u ≤ c * t
main_most u s x c t below most =
    let turned : u * c * t ≡ c * t * u = grind arith in
    let under = div_below (x + s) u (c * t + 1) (omega arith) (omega arith) in
    omega arith

pub split_bound-least : (n : ℕ) → 0 < n → 8 * 10 ^ 12 * n + 10 ^ 12 ≤ split_bound n
split_bound-least n some =
    let a : 4 * 10 ^ 12 * n ≤ 2 * largest_weight * (n + 1) * n = mul-le (4 * 10 ^ 12) n (2 * largest_weight * (n + 1)) n (omega arith) (omega arith) in
    let b : 4 * 10 ^ 12 * n * 2 ≤ 2 * largest_weight * (n + 1) * n * (n + 1) = mul-le (4 * 10 ^ 12 * n) 2 (2 * largest_weight * (n + 1) * n) (n + 1) a (omega arith) in
    omega arith

-- ---- the held weight of an arc from the weights around its head

-- the weight around the head of an arc, its cost and what is left of it are small, and give the held weight
pub record AreArcWeights (around cost left both : ℤ) : Type 0 where
  pub around_low : neg_ℤ (pos (10 ^ 36)) ≤ℤ around
  pub around_high : around ≤ℤ pos (10 ^ 36)
  pub left_low : neg_ℤ (pos (10 ^ 36)) ≤ℤ left
  pub left_high : left ≤ℤ pos (10 ^ 36)
  pub cost_low : pos 0 ≤ℤ cost
  pub cost_high : cost ≤ℤ pos (10 ^ 36)
  pub enough : cost ≤ℤ (around +ℤ left)
  pub held : around +ℤ left -ℤ cost ≡ both

module _ (vertices : ℕ) (ends : ℕ → ℕ × ℕ) (cuts : List CutWeight) (few : length cuts ≤ cut_bound)
    (within : AllByRecursion (IsCutWithin vertices (10 ^ 31)) cuts) (low : AllByRecursion (λ c. pos 0 ≤ℤ c.weight) cuts)
    (a : ℕ) (around cost left : ℤ) (around_is : around ≡ weight_around cuts (ends a).1) (range : IsWideCost cost)
    (left_is : cost ≡ left +ℤ weight_on ends cuts a) where
  pub arc_weights : AreArcWeights around cost left (held_weight ends cuts a)
  arc_weights =
      let w = around_within vertices (10 ^ 31) cuts (ends a).1 within in
      let w_low = w.0 in let w_high = w.1 in
      let cost_low = range.0 in let cost_high = range.1 in
      let on = on_low vertices 0 ends cuts a low in
      let held = held_low vertices 0 ends cuts a low in
      let head = around_head ends cuts a in
      record {
        around_low = omega (arith, ints);
        around_high = omega (arith, ints);
        left_low = omega (arith, ints);
        left_high = omega (arith, ints);
        cost_low = cost_low;
        cost_high = omega (arith, ints);
        enough = omega (arith, ints);
        held = omega (arith, ints);
      }

-- ---- one arc more

pub AreHeldWeights-more : (count : ℕ) (ends : ℕ → ℕ × ℕ) (cuts : List CutWeight) (held more : List ℕ) (x : ℕ) → more ≡ held ++ x ∷ []
    → pos x ≡ held_weight ends cuts count → AreHeldWeights count ends cuts held → AreHeldWeights (count + 1) ends cuts more
AreHeldWeights-more count ends cuts held more x made is h = rw made (record {
  long = (let l = h.long in omega (arith, length-append held (x ∷ [])));
  each = below_more (λ a. pos (get_or (held ++ x ∷ []) a 0) ≡ held_weight ends cuts a) count
      (λ a l. ap pos (get_or_append_left held (x ∷ []) 0 a (let long = h.long in omega arith)) ∙ h.each a l)
      (ap pos (get_or_push held x 0 count h.long) ∙ is);
})
