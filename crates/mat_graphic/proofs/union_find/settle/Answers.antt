use Rattle.mat_graphic.proofs.Common.{arith}
use Rattle.mat_graphic.proofs.ParentTables.{IsSettling-next}
use Rattle.mat_graphic.proofs.union_find.settle.Goals as goal

pub loop-v-preserved : goal.loop-v-preserved
loop-v-preserved c = IsSettling-next _ _ _ (omega arith) c.loop-v.invariant
