use Rattle.mat_arbor.proofs.Common.{[], ◌∷◌, ◌++◌, ◌∙◌, ap, Weight, weight_of}
use Rattle.mat_arbor.proofs.Values.{mapped_more}
use Rattle.mat_arbor.proofs.halves.first_half.Goals as goal

pub loop-x-preserved : goal.loop-x-preserved
loop-x-preserved c =
    mapped_more (weight_of c.args.unit c.args.shift) c.args.held.now c.loop-x.all.items c.push.new.self.items c.loop-x.x-index 0
    c.loop-x-test.true (c.in_ok-push.ensures.items ∙ ap (λ (z : Weight). c.loop-x.all.items ++ z ∷ []) c.weight_of.ensures)
    c.loop-x.invariant
