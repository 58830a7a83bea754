use Rattle.mat_union.proofs.Common.{◌∙◌, cond, ap, with_one, is_same, weight_at, those_below-more, those_below-none}
use Rattle.mat_union.proofs.best.elements_of.Goals as goal

pub loop-x-init : goal.loop-x-init
loop-x-init c = c.new-set.ensures.members ∙ those_below-none (λ y. is_same (weight_at c.args.weights.now y) c.args.at)

pub loop-x-preserved : goal.loop-x-preserved
loop-x-preserved c = those_below-more c.loop-x.x (λ y. is_same (weight_at c.args.weights.now y) c.args.at) c.loop-x.set c.add_if.new.self c.loop-x.invariant
    (c.in_ok-add_if.ensures.ok ∙ ap (λ b. cond b (with_one c.loop-x.set c.loop-x.x) c.loop-x.set) c.eq.ensures)
