use Rattle.mat_union.proofs.Common.{false, some_below-next, some_below-zero, exchanges_of}
use Rattle.mat_union.proofs.GraphSteps.{adds_at}
use Rattle.mat_union.proofs.search.entered_part.Goals as goal

pub loop-i-init : goal.loop-i-init
loop-i-init c = some_below-zero (λ q. (exchanges_of c.args.rows.now q).adds c.args.u)

pub loop-i-preserved : goal.loop-i-preserved
loop-i-preserved c = some_below-next c.loop-i.i (λ q. (exchanges_of c.args.rows.now q).adds c.args.u)
    (adds_at c.args.rows.now c.index-rows-i.result c.get.result.now c.loop-i.i c.args.u false c.index-rows-i.is c.loop-i-test.true c.get.ensures c.if-get.false) c.loop-i.invariant
