use Rattle.mat_check.proofs.Common.{◌+◌, length, sym, subst, take, weight_at, AllBelow-at, IsLeastWeightOrNone}
use Rattle.mat_check.proofs.GainingExchanges.{least_of_all, least_of_more, least_of_none}
use Rattle.mat_check.proofs.sets.exchanges.least_weight.Goals as goal

pub loop-y-init : goal.loop-y-init
loop-y-init c = least_of_none (weight_at c.args.weights.now) c.args.elements.now

pub bounds-weights-y : goal.bounds-weights-y
bounds-weights-y c = AllBelow-at (length c.args.weights.now) c.args.elements.now c.loop-y.y-index c.requires c.loop-y-test.true

pub loop-y-preserved : goal.loop-y-preserved
loop-y-preserved c =
    let w = weight_at c.args.weights.now in
    let xs = c.args.elements.now in
    let i = c.loop-y.y-index in
    subst (IsLeastWeightOrNone w (take (i + 1) xs)) (sym c.least_with-least.ensures) (least_of_more w xs i c.loop-y.least c.loop-y-test.true c.loop-y.invariant)

pub returns : goal.returns
returns c = least_of_all (weight_at c.args.weights.now) c.args.elements.now c.loop-y.y-index c.loop-y.least c.loop-y-test.false c.loop-y.invariant
