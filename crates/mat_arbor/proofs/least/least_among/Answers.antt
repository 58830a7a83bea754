-- The costs are raised to numbers, whose cheapest tree is priced by cuts; the weights that the cuts hold at each arc split its cost in two halves,
-- which show that the tree is least. Where the search ends at a set that no arc enters, there is no arborescence.
use Rattle.mat_arbor.proofs.Common.{◌∙◌, ◌^◌, ◌≤ℤ◌, ℕ, List, pos, length, refl, subst, sym, ap, arith, ints, length-map, All-get_or, ends_of, unentered_has_none, IsWideCost, ArePriced, IsRightlyPriced, CutWeight, raised_value, AreHeldWeights, IsCutWithin}
use Rattle.std.specs.List.{AllByRecursion}
use Rattle.mat_arbor.proofs.Sizes.{cuts_low, cuts_within, held_most}
use Rattle.mat_arbor.proofs.Splits.{numbers_wide, split_is_right, total_small}
use Rattle.mat_arbor.proofs.least.least_among.Goals as goal

pub priced-requires-clause-range : goal.priced-requires-clause-range
priced-requires-clause-range c =
    let arcs = c.args.arcs.now in
    let numbers = c.as_slice.result.now in
    let u = c.unit_of-unit.result in
    let made = c.as_slice.ensures.value ∙ c.in_ok-numbers.ensures in
    numbers_wide c.args.vertices arcs c.args.costs.now c.args.root u numbers c.requires.lengths c.requires.small c.unit_of-unit.ensures made c.requires.few

pub held_weights-requires-clause-cuts : goal.held_weights-requires-clause-cuts
held_weights-requires-clause-cuts c =
    let arcs = c.args.arcs.now in
    let numbers = c.as_slice.result.now in
    let u = c.unit_of-unit.result in
    let made = c.as_slice.ensures.value ∙ c.in_ok-numbers.ensures in
    let p : ArePriced c.args.vertices arcs numbers c.args.root c.in-Tree.tree c.in-Tree.cuts.items c.in-Tree.left.items =
    subst (IsRightlyPriced c.args.vertices arcs numbers c.args.root) c.in-Tree.is c.in_ok-tree.ensures in
    subst (AllByRecursion (IsCutWithin c.args.vertices (10 ^ 31))) (sym c.as_slice-in-Tree-2.ensures.value)
    (cuts_within c.args.vertices c.args.root (10 ^ 31) c.in-Tree.cuts.items p.right.each
    (total_small c.args.vertices arcs c.args.costs.now c.args.root u numbers c.requires.lengths c.requires.small c.unit_of-unit.ensures made
    c.in-Tree.tree c.in-Tree.cuts.items c.in-Tree.left.items p c.requires.few))

pub held_weights-requires-clause-positive : goal.held_weights-requires-clause-positive
held_weights-requires-clause-positive c =
    let arcs = c.args.arcs.now in
    let numbers = c.as_slice.result.now in
    let u = c.unit_of-unit.result in
    let made = c.as_slice.ensures.value ∙ c.in_ok-numbers.ensures in
    let p : ArePriced c.args.vertices arcs numbers c.args.root c.in-Tree.tree c.in-Tree.cuts.items c.in-Tree.left.items =
    subst (IsRightlyPriced c.args.vertices arcs numbers c.args.root) c.in-Tree.is c.in_ok-tree.ensures in
    subst (AllByRecursion (λ (d : CutWeight). pos 0 ≤ℤ d.weight)) (sym c.as_slice-in-Tree-2.ensures.value)
    (cuts_low c.args.vertices c.args.root c.in-Tree.cuts.items p.right.each)

pub held_weights-requires-clause-range : goal.held_weights-requires-clause-range
held_weights-requires-clause-range c = λ a l.
    let arcs = c.args.arcs.now in
    let numbers = c.as_slice-in-Tree.result.now in
    let u = c.unit_of-unit.result in
    let made = c.as_slice-in-Tree.ensures.value ∙ c.in_ok-numbers.ensures in
    let long = ap length made ∙ length-map c.args.costs.now (raised_value u) ∙ c.requires.lengths in
    All-get_or IsWideCost numbers a (pos 0) (omega arith)
    (numbers_wide c.args.vertices arcs c.args.costs.now c.args.root u numbers c.requires.lengths c.requires.small c.unit_of-unit.ensures made c.requires.few)

pub halves-requires-clause-small : goal.halves-requires-clause-small
halves-requires-clause-small c = λ a l.
    let arcs = c.args.arcs.now in
    let numbers = c.as_slice.result.now in
    let u = c.unit_of-unit.result in
    let made = c.as_slice.ensures.value ∙ c.in_ok-numbers.ensures in
    let p : ArePriced c.args.vertices arcs numbers c.args.root c.in-Tree.tree c.in-Tree.cuts.items c.in-Tree.left.items =
    subst (IsRightlyPriced c.args.vertices arcs numbers c.args.root) c.in-Tree.is c.in_ok-tree.ensures in
    let total = total_small c.args.vertices arcs c.args.costs.now c.args.root u numbers c.requires.lengths c.requires.small c.unit_of-unit.ensures made
    c.in-Tree.tree c.in-Tree.cuts.items c.in-Tree.left.items p c.requires.few in
    let held : AreHeldWeights (length arcs) (ends_of arcs) c.in-Tree.cuts.items c.as_slice-in-Tree-4.result.now =
    subst (λ (h : List ℕ). AreHeldWeights (length arcs) (ends_of arcs) c.in-Tree.cuts.items h) (sym c.as_slice-in-Tree-4.ensures.value)
    (subst (λ (k : List CutWeight). AreHeldWeights (length arcs) (ends_of arcs) k c.in_ok-held-in-Tree.held.items) c.as_slice-in-Tree-2.ensures.value
    c.in_ok-held-in-Tree.ensures) in
    let long = held.long in
    let each = held.each a (omega arith) in
    omega (arith, ints, held_most c.args.vertices c.args.root (ends_of arcs) c.in-Tree.cuts.items a p.right.each)

pub returns-in-Tree-clause-right : goal.returns-in-Tree-clause-right
returns-in-Tree-clause-right c =
    let arcs = c.args.arcs.now in
    let numbers = c.as_slice.result.now in
    let u = c.unit_of-unit.result in
    let made = c.as_slice.ensures.value ∙ c.in_ok-numbers.ensures in
    let p : ArePriced c.args.vertices arcs numbers c.args.root c.in-Tree.tree c.in-Tree.cuts.items c.in-Tree.left.items =
    subst (IsRightlyPriced c.args.vertices arcs numbers c.args.root) c.in-Tree.is c.in_ok-tree.ensures in
    let held : AreHeldWeights (length arcs) (ends_of arcs) c.in-Tree.cuts.items c.as_slice-in-Tree-4.result.now =
    subst (λ (h : List ℕ). AreHeldWeights (length arcs) (ends_of arcs) c.in-Tree.cuts.items h) (sym c.as_slice-in-Tree-4.ensures.value)
    (subst (λ (k : List CutWeight). AreHeldWeights (length arcs) (ends_of arcs) k c.in_ok-held-in-Tree.held.items) c.as_slice-in-Tree-2.ensures.value
    c.in_ok-held-in-Tree.ensures) in
    let h = c.in_ok-first-in-Tree.ensures in
    split_is_right c.args.vertices arcs c.args.costs.now c.args.root u numbers c.requires.lengths c.requires.small c.unit_of-unit.ensures made
    c.in-Tree.tree c.in-Tree.cuts.items c.in-Tree.left.items p c.requires.graph c.requires.root h.shift c.as_slice-in-Tree-4.result.now c.in_ok-first-in-Tree.first c.in_ok-first-in-Tree.second
    held h.free h.first_are h.second_are

pub unreached_from-requires-clause-none : goal.unreached_from-requires-clause-none
unreached_from-requires-clause-none c = λ X spans.
    let arcs = c.args.arcs.now in
    let unentered = subst (IsRightlyPriced c.args.vertices arcs c.as_slice.result.now c.args.root) c.in-Unreached.is c.in_ok-tree.ensures in
    unentered_has_none c.args.vertices arcs c.args.root c.in-Unreached.field-0 X unentered spans

pub returns-clause-unreached : goal.returns-clause-unreached
returns-clause-unreached c = (
  (λ _ X spans.
      let arcs = c.args.arcs.now in
      let unentered = subst (IsRightlyPriced c.args.vertices arcs c.as_slice.result.now c.args.root) c.in-Unreached.is c.in_ok-tree.ensures in
      unentered_has_none c.args.vertices arcs c.args.root c.in-Unreached.field-0 X unentered spans),
  λ _. refl,
)
