use Rattle.mat_graphic.proofs.Common.{◌∙◌, eqb, get_or, those_below-more, those_below-none}
use Rattle.mat_graphic.proofs.components.least_vertices.Goals as goal

pub loop-v-init : goal.loop-v-init
loop-v-init c = c.new-set.ensures.members ∙ those_below-none (λ v. eqb (get_or c.args.least.now v 0) v)

pub loop-v-preserved : goal.loop-v-preserved
loop-v-preserved c = those_below-more c.loop-v.v (λ v. eqb (get_or c.args.least.now v 0) v) c.loop-v.set c.add_if.new.self c.loop-v.invariant
    c.in_ok-add_if.ensures.ok
