use Rattle.mat_union.proofs.Common.{sym, ap, ◌∙◌, is_member, some_below-zero, exchanges_of}
use Rattle.mat_union.proofs.GraphSteps.{pushed_more}
use Rattle.mat_union.proofs.move_graph.pushed.Goals as goal

pub loop-i-init : goal.loop-i-init
loop-i-init c = λ v. ap (is_member v) c.new-set.ensures ∙ sym (some_below-zero (λ q. (exchanges_of c.args.rows.now q).trades v c.args.u))

pub loop-i-preserved : goal.loop-i-preserved
loop-i-preserved c = pushed_more c.args.rows.now c.index-rows-i.result c.get.result.now c.loop-i.i c.args.u c.loop-i.set c.insert_all.new.set c.as_slice.result.now
    c.index-rows-i.is c.loop-i-test.true c.get.ensures c.loop-i.invariant c.as_slice.ensures.items c.in_ok-insert_all.ensures
