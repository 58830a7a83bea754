-- THE THEOREM: the cheapest tree with the two halves that the listed sets give is a right answer.
-- Idea: the values of the first half are the held weights and those of the second the rest, so that no exchange gains; and as no rest lies in
-- the last gap of the unit, ties differ by less than the unit, so that weights compare as their values do.
use Rattle.mat_arbor.proofs.Common.{◌≡◌, ℕ, ◌+◌, ◌*◌, ◌^◌, ◌<◌, ◌≤◌, true, false, List, length, get_or, map, ap, ◌∙◌, arith, All, ℤ, pos, neg_ℤ, ◌+ℤ◌, ◌-ℤ◌, ◌≤ℤ◌, ◌<ℤ◌, and_parts, ints, get_or-map, length-map, All-get_or, All-from_get_or, mul-le, ends_of, IsGraph, largest_weight, most_elements}
use Rattle.mat_arbor.proofs.Common.{is_member, with_one, without_one, IsSet, is_set, ◌⊕◌, ◌⊖◌, ◌≼◌, negated, weight_at, zero_weight, AreWeightsWithin, IsWeightWithin, Weight, sum_of-high, below_member, IsSet-length, IsSet-from_test, pairs, split_bound, cost_at, IsWideCost, all_weight, ArePriced}
use Rattle.mat_arbor.proofs.Common.{CutWeight, is_forest, is_graphic, graphic_laws, IsForest-from_test, IsRightArbor, cap_at, head_of, is_entering_once, raised_value, tie_gap, unit_of, value, weight_of, AreSecondHalves, IsFreeShift, held_weight, AreHeldWeights}
use Rattle.mat_laws.specs.Heaviest.{IsHeaviest}
use Rattle.mat_laws.specs.Matroids.{IsMatroid}
use Rattle.mat_laws.proofs.LocallyHeaviest.{heaviest_from_exchanges}
use Rattle.mat_count.specs.Labels.{caps_by, classes_by}
use Rattle.mat_count.specs.PartitionLaws.{partition_laws}
use Rattle.mat_count.proofs.LabelClasses.{IsPartition-classes_by, length-caps_by}
use Rattle.mat_arbor.specs.declared.arbor.Arbor.TheVariants.{Tree}
use Rattle.mat_arbor.proofs.CommonSets.{EntersOnce-from_test, IsSet-entering_once}
use Rattle.mat_arbor.proofs.Exchanges.{cost_swap, exchanged-new, held_swap, one_head}
use Rattle.mat_arbor.proofs.LeastTrees.{common_from_arborescence}
use Rattle.mat_arbor.proofs.Sizes.{held_most, main_most, raised_range, split_bound-least}
use Rattle.mat_arbor.proofs.Slackness.{entered_once}
use Rattle.mat_arbor.proofs.Values.{times_negated, times_plus, value_order, weight_of-tie, weight_of-value}

-- at most one arc into each vertex and none into the root: the laws of independence hold of it
pub entering_once_laws : (n vertices : ℕ) (ends : ℕ → ℕ × ℕ) (root : ℕ) → IsMatroid n (is_entering_once n vertices ends root)
entering_once_laws n vertices ends root =
    partition_laws n (classes_by n vertices (head_of ends)) (caps_by vertices (cap_at root))
    (IsPartition-classes_by n vertices (head_of ends) (caps_by vertices (cap_at root)) (length-caps_by vertices (cap_at root)))

-- the numbers of the costs, each of them and the tree's together
module _ (vertices : ℕ) (arcs : List (ℕ × ℕ)) (costs : List Weight) (root u : ℕ) (numbers : List ℤ)
    (lengths : length costs ≡ length arcs) (small : AreWeightsWithin largest_weight costs) (unit : u ≡ unit_of (length arcs))
    (made : numbers ≡ map (raised_value u) costs) where
  pub number_at : (a : ℕ) → a < length arcs → cost_at numbers a ≡ raised_value u (weight_at costs a)
  number_at a l = ap (λ (xs : List ℤ). get_or xs a (pos 0)) made ∙ get_or-map (raised_value u) costs a zero_weight (pos 0) (omega arith)

  pub number_range : (a : ℕ) → a < length arcs → (pos 0 ≤ℤ cost_at numbers a) × (cost_at numbers a ≤ℤ pos (u * (2 * largest_weight + 2)))
  number_range a l =
      let range = raised_range u (weight_at costs a) (omega arith) (All-get_or (IsWeightWithin largest_weight) costs a zero_weight (omega arith) small) in
      let low = range.0 in let high = range.1 in
      (omega (arith, ints, number_at a l), omega (arith, ints, number_at a l))

  pub numbers_wide : length arcs ≤ most_elements → All IsWideCost numbers
  numbers_wide few = All-from_get_or IsWideCost numbers (pos 0) (λ a l. wide a (omega (arith, ap length made, length-map costs (raised_value u))))
    where
      wide : (a : ℕ) → a < length arcs → IsWideCost (cost_at numbers a)
      wide a l = let range = number_range a l in let low = range.0 in let high = range.1 in (low, omega (arith, ints))

  module _ (tree : List ℕ) (cuts : List CutWeight) (left : List ℤ) (p : ArePriced vertices arcs numbers root tree cuts left) where
    pub total_most : all_weight cuts ≤ℤ pos (u * (2 * largest_weight + 2) * length tree)
    total_most =
        let high = sum_of-high (cost_at numbers) (u * (2 * largest_weight + 2)) tree (λ a m. (number_range a (below_member p.right.spans.set m)).1) in
        let total = p.right.total in
        omega (arith, ints)

    pub total_small : length arcs ≤ most_elements → all_weight cuts ≤ℤ pos (10 ^ 31)
    total_small few =
        let each : u * (2 * largest_weight + 2) ≤ 3 * 10 ^ 27 = omega arith in
        let short = IsSet-length (length arcs) tree p.right.spans.set in
        let all = mul-le (u * (2 * largest_weight + 2)) (length tree) (3 * 10 ^ 27) 500 each (omega arith) in
        omega (arith, ints, total_most)

    module _ (g : IsGraph vertices arcs) (below_root : root < vertices) (s : ℕ) (held : List ℕ) (first second : List Weight)
        (held_are : AreHeldWeights (length arcs) (ends_of arcs) cuts held) (free : IsFreeShift u held s)
        (first_are : first ≡ map (weight_of u s) held) (second_are : AreSecondHalves costs first second) where
      n : ℕ
      n = length arcs

      ends : ℕ → ℕ × ℕ
      ends = ends_of arcs

      first_long : length first ≡ length arcs
      first_long = ap length first_are ∙ length-map held (weight_of u s) ∙ held_are.long

      first_at : (a : ℕ) → a < length arcs → weight_at first a ≡ weight_of u s (get_or held a 0)
      first_at a l =
          let long = held_are.long in
          ap (λ (xs : List Weight). get_or xs a zero_weight) first_are ∙ get_or-map (weight_of u s) held a 0 zero_weight (omega arith)

      first_value : (a : ℕ) → a < length arcs → value u (weight_at first a) ≡ held_weight (ends_of arcs) cuts a
      first_value a l = ap (value u) (first_at a l) ∙ weight_of-value u s (get_or held a 0) ∙ held_are.each a l

      first_tie : (a : ℕ) → a < length arcs
          → (pos 0 ≤ℤ ((weight_at first a).tie +ℤ pos s)) × (((weight_at first a).tie +ℤ pos s +ℤ pos tie_gap) <ℤ pos u)
      first_tie a l =
          let tie = ap (λ (w : Weight). w.tie +ℤ pos s) (first_at a l) ∙ weight_of-tie u s (get_or held a 0) in
          let long = held_are.long in
          let rest = free.free a (omega arith) in
          (omega (arith, ints), omega (arith, ints))

      second_at : (a : ℕ) → a < length arcs → weight_at second a ≡ negated (weight_at costs a) ⊖ weight_at first a
      second_at a l = second_are.each a (omega arith)

      split : (a : ℕ) → a < length arcs → weight_at first a ⊕ weight_at second a ≡ negated (weight_at costs a)
      split a l = omega (arith, ints, pairs, second_at a l)

      -- costs and first halves together, as the second halves have them
      second_value : (a : ℕ) → a < length arcs
          → value u (weight_at second a) +ℤ cost_at numbers a +ℤ held_weight (ends_of arcs) cuts a ≡ pos (u * (largest_weight + 1))
      second_value a l =
          let c = weight_at costs a in
          let f = weight_at first a in
          let at = ap (value u) (second_at a l) in
          omega (
            arith,
            ints,
            times_plus u (neg_ℤ c.main) (neg_ℤ f.main),
            times_negated u c.main,
            times_negated u f.main,
            number_at a l,
            first_value a l,
          )

      second_tie : (a : ℕ) → a < length arcs → (weight_at second a).tie ≡ neg_ℤ (weight_at costs a).tie -ℤ (weight_at first a).tie
      second_tie a l = ap (λ (w : Weight). w.tie) (second_at a l)

      cost_within : (a : ℕ) → a < length arcs → IsWeightWithin largest_weight (weight_at costs a)
      cost_within a l = All-get_or (IsWeightWithin largest_weight) costs a zero_weight (omega arith) small

      -- ---- both halves are heaviest

      in_graphic : (X : List ℕ) → is_graphic (length arcs) (ends_of arcs) X ≡ true → IsSet (length arcs) X
      in_graphic X h = IsSet-from_test (length arcs) X (and_parts (is_set (length arcs) X) (is_forest (ends_of arcs) X) h).0

      first_heaviest : IsHeaviest (is_graphic (length arcs) (ends_of arcs)) (weight_at first) tree
      first_heaviest =
          heaviest_from_exchanges (graphic_laws (length arcs) (ends_of arcs)) (weight_at first) tree
          (common_from_arborescence vertices arcs root g below_root tree p.right.spans).0 (λ x y m o ok. at x y m o ok)
        where
          at : (x y : ℕ) → is_member y tree ≡ true → is_member x tree ≡ false
              → is_graphic (length arcs) (ends_of arcs) (with_one (without_one tree y) x) ≡ true → weight_at first x ≼ weight_at first y
          at x y m o ok =
              let X = with_one (without_one tree y) x in
              let set = in_graphic X ok in
              let lx : x < length arcs = below_member set (exchanged-new tree x y) in
              let ly : y < length arcs = below_member p.right.spans.set m in
              let forest = IsForest-from_test (ends_of arcs) X set.rising (and_parts (is_set (length arcs) X) (is_forest (ends_of arcs) X) ok).1 in
              let less = held_swap (length arcs) vertices (ends_of arcs) root below_root tree
              (λ a ma. let l = below_member p.right.spans.set ma in (g.first a l, g.second a l)) p.right.spans cuts p.right.each
              (entered_once vertices arcs numbers root tree cuts left p) x y o forest in
              let tx = first_tie x lx in let ty = first_tie y ly in
              let low = tx.0 in let high = ty.1 in
              value_order u (weight_at first x) (weight_at first y) (omega (arith, ints, first_value x lx, first_value y ly)) (omega (arith, ints))

      second_heaviest : IsHeaviest (is_entering_once (length arcs) vertices (ends_of arcs) root) (weight_at second) tree
      second_heaviest =
          heaviest_from_exchanges (entering_once_laws (length arcs) vertices (ends_of arcs) root) (weight_at second) tree
          (common_from_arborescence vertices arcs root g below_root tree p.right.spans).1 (λ x y m o ok. at x y m o ok)
        where
          at : (x y : ℕ) → is_member y tree ≡ true → is_member x tree ≡ false
              → is_entering_once (length arcs) vertices (ends_of arcs) root (with_one (without_one tree y) x) ≡ true
              → weight_at second x ≼ weight_at second y
          at x y m o ok =
              let X = with_one (without_one tree y) x in
              let lx : x < length arcs = below_member (IsSet-entering_once (length arcs) vertices (ends_of arcs) root g.second X ok) (exchanged-new tree x y) in
              let ly : y < length arcs = below_member p.right.spans.set m in
              let head = one_head (length arcs) vertices (ends_of arcs) root below_root tree
              (λ a ma. let l = below_member p.right.spans.set ma in (g.first a l, g.second a l)) p.right.spans x y (g.second x lx) o
              (EntersOnce-from_test (length arcs) vertices (ends_of arcs) root g.second X ok) in
              let less = cost_swap vertices arcs numbers root tree cuts left p x y lx m head in
              let tx = first_tie x lx in let ty = first_tie y ly in
              let low_x = tx.0 in let high_x = tx.1 in let low_y = ty.0 in let high_y = ty.1 in
              let cx = (cost_within x lx).1 in let cy = (cost_within y ly).1 in
              let clx = cx.0 in let chx = cx.1 in let cly = cy.0 in let chy = cy.1 in
              value_order u (weight_at second x) (weight_at second y)
              (omega (arith, ints, second_value x lx, second_value y ly))
              (omega (arith, ints, second_tie x lx, second_tie y ly))

      -- ---- both halves are within the bound

      first_main : (a : ℕ) → a < length arcs
          → (pos 0 ≤ℤ (weight_at first a).main) × ((weight_at first a).main ≤ℤ pos ((2 * largest_weight + 2) * length arcs))
      first_main a l =
          let x = get_or held a 0 in
          let each = held_are.each a l in
          let few = IsSet-length (length arcs) tree p.right.spans.set in
          let main = main_most u s x (2 * largest_weight + 2) (length tree) free.below
          (omega (arith, ints, held_most vertices root (ends_of arcs) cuts a p.right.each, total_most)) in
          let is = ap (λ (w : Weight). w.main) (first_at a l) in
          (omega (arith, ints), omega (arith, ints))

      first_bounded : AreWeightsWithin (split_bound (length arcs)) first
      first_bounded = All-from_get_or (IsWeightWithin (split_bound (length arcs))) first zero_weight (λ a lf. at a (omega (arith, first_long)))
        where
          at : (a : ℕ) → a < length arcs → IsWeightWithin (split_bound (length arcs)) (weight_at first a)
          at a l =
              let main = first_main a l in let main_low = main.0 in let main_high = main.1 in
              let tie = first_tie a l in let tie_low = tie.0 in let tie_high = tie.1 in
              let below = free.below in
              let room = split_bound-least (length arcs) (omega arith) in
              ((omega (arith, ints), omega (arith, ints)), (omega (arith, ints), omega (arith, ints)))

      second_bounded : AreWeightsWithin (split_bound (length arcs)) second
      second_bounded = All-from_get_or (IsWeightWithin (split_bound (length arcs))) second zero_weight
          (λ a lf. at a (let long = second_are.long in omega arith))
        where
          at : (a : ℕ) → a < length arcs → IsWeightWithin (split_bound (length arcs)) (weight_at second a)
          at a l =
              let main = first_main a l in let main_low = main.0 in let main_high = main.1 in
              let tie = first_tie a l in let tie_low = tie.0 in let tie_high = tie.1 in
              let c = cost_within a l in
              let cm_low = c.0.0 in let cm_high = c.0.1 in let ct_low = c.1.0 in let ct_high = c.1.1 in
              let below = free.below in
              let main_is = ap (λ (w : Weight). w.main) (second_at a l) in
              let room = split_bound-least (length arcs) (omega arith) in
              ((omega (arith, ints), omega (arith, ints)), (omega (arith, ints, second_tie a l), omega (arith, ints, second_tie a l)))

      pub split_is_right : IsRightArbor vertices arcs costs root (Tree tree first second)
      split_is_right = (
        record {
          spanning = p.right.spans;
          first_length = first_long;
          second_length = second_are.long ∙ lengths;
          split = split;
          first_heaviest = first_heaviest;
          second_heaviest = second_heaviest;
        },
        first_bounded,
        second_bounded,
      )
