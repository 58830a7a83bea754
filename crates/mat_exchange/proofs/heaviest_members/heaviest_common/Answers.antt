use Rattle.mat_exchange.proofs.HeaviestMembers.{heaviest_to_next}
use Rattle.mat_exchange.proofs.heaviest_members.heaviest_common.Goals as goal

pub loop-x-preserved : goal.loop-x-preserved
loop-x-preserved c = rw c.heavier-heaviest.ensures (heaviest_to_next _ _ _ _ _ c.in-Some.ensures c.loop-x.invariant)
