-- The cuts are right if each is a cut, no arc pays more than its cost, and the weights add up to the cost of the tree.
use mir.Syntax.{w128}
use mir.Val.{SFits}
use Rattle.mat_cuts.proofs.Common.{◌∙◌, refl, sym, ap, arith, rules, to_z, of_z, eq-eqb, eqb-true, false≢true, ints, to_z-of_z, cost_at, cost_of}
use Rattle.mat_cuts.proofs.Adding.{small_weights}
use Rattle.mat_cuts.proofs.checking.are_right_cuts.Goals as goal

pub returns-then-not-are_cuts : goal.returns-then-not-are_cuts
returns-then-not-are_cuts c = (
  λ right. absurd (false≢true right),
  λ right. (c.if-not-are_cuts.ensures c.args.vertices c.requires.cuts).1 right.each,
)

pub paid_costs-requires-clause-small : goal.paid_costs-requires-clause-small
paid_costs-requires-clause-small c = small_weights c.args.vertices c.args.cuts.now c.requires.cuts

pub total_weight-requires-clause-small : goal.total_weight-requires-clause-small
total_weight-requires-clause-small c = small_weights c.args.vertices c.args.cuts.now c.requires.cuts

pub returns : goal.returns
returns c =
    let weight = c.total_weight.result in
    let cost = c.total_cost.result in
    let cost_is = c.total_cost.ensures ∙ ap (cost_of c.args.costs.now) c.as_slice.ensures.items in
    let weight_fits : SFits w128 weight = search rules in
    let cost_fits : SFits w128 cost = search rules in (
      λ right. record {
        spans = c.in_ok-is_spanning.ensures.0 c.if-not-branch.false;
        few = c.requires.few;
        each = (c.if-not-are_cuts.ensures c.args.vertices c.requires.cuts).0 refl;
        within = λ a l.
            let paid = ap (λ s. cost_at s a) c.deref.ensures.value ∙ c.in_ok-paid.ensures.paid a l in
            let most = c.if-not-is_within.ensures.0 refl a (let same = c.requires.costs in omega arith) in
            omega (arith, ints);
        total = sym c.total_weight.ensures ∙ sym (to_z-of_z w128 weight weight_fits) ∙ ap (to_z w128) (eqb-true _ _ right)
            ∙ to_z-of_z w128 cost cost_fits ∙ cost_is;
      },
      λ all. eq-eqb _ _ (ap (of_z w128) (c.total_weight.ensures ∙ all.total ∙ sym cost_is)),
    )
