use Rattle.mat_union.proofs.Common.{is_member}
use Rattle.mat_union.proofs.GraphSteps.{insert_more, insert_none}
use Rattle.mat_union.proofs.move_graph.insert_all.Goals as goal

pub loop-x-init : goal.loop-x-init
loop-x-init c = λ v. insert_none c.args.items.now (is_member v c.args.set.now) v

pub loop-x-preserved : goal.loop-x-preserved
loop-x-preserved c = insert_more c.loop-x.set c.insert.new.self c.args.items.now c.loop-x.x-index c.args.set.now c.loop-x-test.true c.loop-x.invariant c.in_ok-insert.ensures.ok
