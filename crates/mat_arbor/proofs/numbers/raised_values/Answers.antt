use mir.Syntax.{w128}
use Rattle.mat_arbor.proofs.Common.{◌≡◌, [], ◌∷◌, ◌++◌, ◌∙◌, ℤ, ap, arith, to_z, of_z, ints, zero_weight, raised_value}
use Rattle.mat_arbor.proofs.Values.{mapped_more}
use Rattle.mat_arbor.proofs.numbers.raised_values.Goals as goal

pub loop-cost-preserved : goal.loop-cost-preserved
loop-cost-preserved c =
    let fits : to_z w128 (of_z w128 c.raised_value.result) ≡ c.raised_value.result = omega (arith, ints) in
    mapped_more (raised_value c.args.unit) c.args.costs.now c.loop-cost.all.items c.push.new.self.items c.loop-cost.cost-index zero_weight
    c.loop-cost-test.true (c.in_ok-push.ensures.items ∙ ap (λ (z : ℤ). c.loop-cost.all.items ++ z ∷ []) (fits ∙ c.raised_value.ensures))
    c.loop-cost.invariant
