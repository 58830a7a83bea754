use Rattle.mat_union.proofs.Common.{length}
use Rattle.mat_union.proofs.Taking.{AreTakenSo}
use Rattle.mat_union.proofs.move_search.take_common.Given as goal

abbrev pub invariant-loop-v : goal.invariant-loop-v
invariant-loop-v l = AreTakenSo l.pushes l.fn.unreached l.fn.queue.items l.unreached l.queue.items

abbrev pub decreases-loop-v : goal.decreases-loop-v
decreases-loop-v l = length l.unreached
