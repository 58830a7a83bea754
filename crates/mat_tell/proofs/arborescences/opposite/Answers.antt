use Rattle.std.proofs.Common.{[], ◌∷◌, ◌++◌, ◌∙◌, ap}
use Rattle.mat_sets.specs.declared.weight.Weight.{Weight}
use Rattle.mat_reasons.proofs.Negated.{negated_more}
use Rattle.mat_tell.proofs.arborescences.opposite.Goals as goal

pub loop-weight-preserved : goal.loop-weight-preserved
loop-weight-preserved c =
    negated_more c.args.weights.now c.loop-weight.others.items c.push.new.self.items c.loop-weight.weight-index c.loop-weight-test.true
    (c.in_ok-push.ensures.items ∙ ap (λ (z : Weight). c.loop-weight.others.items ++ z ∷ []) c.neg.ensures) c.loop-weight.invariant
