-- Each spanning arborescence enters each root-free set, so that weights which the costs pay are together at most its cost.
use Rattle.mat_cuts.proofs.Common.{◌≡◌, ℕ, ◌≤◌, Bool, true, false, List, [], ◌∷◌, length, inl, inr, refl, arith, ℤ, pos, ◌≤ℤ◌, ◌<ℤ◌, All, cases_Bool, false≢true, ints, All-get_or, vertex_bound, largest_number, largest_weight, ends_of, enters, IsSpanningArborescence, is_member, sum_of, cost_at}
use Rattle.mat_cuts.proofs.Common.{cost_of, IsCost, sum_of-high, sum_of-le, sum_of-plus, arborescence_enters, below_member, all_weight, weight_on, weight_where, AreRightCuts, IsWeightedCut, AreInRange, AreRight, IsCutInRange, Tree, Unreached, CutWeight}
use Rattle.std.specs.List.{AllByRecursion}
use Rattle.mat_cuts.specs.declared.cut_weight.Cuts.{Cuts}

module _ (ends : ℕ → ℕ × ℕ) where
  where-low : (b : Bool) (w : ℤ) → pos 0 <ℤ w → pos 0 ≤ℤ weight_where b w
  where-low true w p = omega (arith, ints)
  where-low false w p = omega (arith, ints)

  where-sum-low : (set : List ℕ) (w : ℤ) (xs : List ℕ) → pos 0 <ℤ w → pos 0 ≤ℤ sum_of (λ a. weight_where (enters ends set a) w) xs
  where-sum-low set w [] p = omega (arith, ints)
  where-sum-low set w (x ∷ xs) p = omega (arith, ints, where-low (enters ends set x) w p, where-sum-low set w xs p)

  -- a set that some arc enters is paid once at least
  pub where-sum : (set : List ℕ) (w : ℤ) (xs : List ℕ) (a : ℕ) → pos 0 <ℤ w → is_member a xs ≡ true → enters ends set a ≡ true
      → w ≤ℤ sum_of (λ a. weight_where (enters ends set a) w) xs
  where-sum set w [] a p m e = absurd (false≢true m)
  where-sum set w (x ∷ xs) a p m e = elim (cases_Bool (enters ends set x)) [
    | inl here ↦ (let full : weight_where (enters ends set x) w ≡ w = rw here in omega (arith, ints, full, where-sum-low set w xs p))
    | inr not_here ↦ (let rest : is_member a xs ≡ true = other x xs a m e not_here in
        omega (arith, ints, where-low (enters ends set x) w p, where-sum set w xs a p rest e))
  ]
    where
      other : (x : ℕ) (xs : List ℕ) (a : ℕ) → is_member a (x ∷ xs) ≡ true → enters ends set a ≡ true → enters ends set x ≡ false
          → is_member a xs ≡ true
      other x xs a m e n = grind arith

  -- all weights are together at most what the arcs of an arborescence pay
  pub all_weight-le : (vertices count root : ℕ) (tree : List ℕ) (cuts : List CutWeight)
      → IsSpanningArborescence vertices count ends root tree
      → AllByRecursion (IsWeightedCut vertices root) cuts → all_weight cuts ≤ℤ sum_of (weight_on ends cuts) tree
  all_weight-le vertices count root tree [] s each = none tree
    where
      none : (xs : List ℕ) → pos 0 ≤ℤ sum_of (weight_on ends []) xs
      none [] = omega (arith, ints)
      none (x ∷ xs) = omega (arith, ints, none xs)
  all_weight-le vertices count root tree (c ∷ cuts) s each =
      let w = arborescence_enters ends vertices count root tree c.set s each.0.root_free in
      let split = sum_of-plus (weight_on ends (c ∷ cuts)) (λ a. weight_where (enters ends c.set a) c.weight) (weight_on ends cuts) tree (λ k m. refl) in
      omega (arith, ints, split, where-sum c.set c.weight tree w.0 each.0.positive w.1 w.2, all_weight-le vertices count root tree cuts s each.1)

-- THE THEOREM: right cuts bound the cost of each spanning arborescence
pub right_cuts_are_cheapest : (vertices : ℕ) (arcs : List (ℕ × ℕ)) (costs : List ℤ) (root : ℕ) (tree : List ℕ) (cuts : List CutWeight)
    → AreRightCuts vertices arcs costs root tree cuts
    → (other : List ℕ) → IsSpanningArborescence vertices (length arcs) (ends_of arcs) root other → cost_of costs tree ≤ℤ cost_of costs other
right_cuts_are_cheapest vertices arcs costs root tree cuts r other s =
    let paid = sum_of-le (weight_on (ends_of arcs) cuts) (cost_at costs) other (λ a m. r.within a (below_member s.set m)) in
    let most = all_weight-le (ends_of arcs) vertices (length arcs) root other cuts s r.each in
    let same = r.total in
    omega (arith, ints)

-- ---- right answers are in range

-- weights above 0 are each at most all of them together
cuts_in_range : (vertices root : ℕ) (cuts : List CutWeight) → AllByRecursion (IsWeightedCut vertices root) cuts → all_weight cuts ≤ℤ pos largest_number
    → AllByRecursion (IsCutInRange vertices) cuts × (pos 0 ≤ℤ all_weight cuts)
cuts_in_range vertices root [] each most = (tt, omega (arith, ints))
cuts_in_range vertices root (c ∷ cuts) each most =
    let positive = each.0.positive in
    let rest = cuts_in_range vertices root cuts each.1 (omega (arith, ints)) in
    let low = rest.1 in
    ((record { below = each.0.root_free.set.below; small = (omega (arith, ints), omega (arith, ints)) }, rest.0), omega (arith, ints))

pub right_in_range : (vertices : ℕ) (arcs : List (ℕ × ℕ)) (costs : List ℤ) (root : ℕ) (cuts : Cuts) → vertices ≤ vertex_bound → All IsCost costs
    → length costs ≡ length arcs → AreRight vertices arcs costs root cuts → AreInRange vertices (length arcs) cuts
right_in_range vertices arcs costs root (Tree tree cuts) few range long r =
    let most = sum_of-high (cost_at costs) largest_weight tree
    (λ a m. (All-get_or IsCost costs a (pos 0) (let l = below_member r.spans.set m in omega arith) range).1) in
    let size = r.spans.size in
    let total = r.total in
    (r.spans.set.below, r.few, (cuts_in_range vertices root cuts.items r.each (omega (arith, ints))).0)
right_in_range vertices arcs costs root (Unreached set) few range long r = r.root_free.set.below
