use Rattle.mat_sets.proofs.Common.{◌∙◌, cond, not, ap, with_one, is_below, weight_at}
use Rattle.mat_sets.proofs.Rounds.{those_below-more, those_below-none}
use Rattle.mat_sets.proofs.heavy.heavy_elements.Goals as goal

pub loop-x-init : goal.loop-x-init
loop-x-init c = c.new-set.ensures.members ∙ those_below-none (λ y. not (is_below (weight_at c.args.weights.now y) c.args.at))

pub loop-x-preserved : goal.loop-x-preserved
loop-x-preserved c = those_below-more c.loop-x.x
    (λ y. not (is_below (weight_at c.args.weights.now y) c.args.at)) c.loop-x.set c.add_if.new.self c.loop-x.invariant
    (c.in_ok-add_if.ensures.ok ∙ ap (λ b. cond (not b) (with_one c.loop-x.set c.loop-x.x) c.loop-x.set) c.is_lighter.ensures)
