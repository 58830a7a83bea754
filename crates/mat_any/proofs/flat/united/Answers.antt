use Rattle.mat_any.proofs.JoinedMatroids.{node}
use Rattle.mat_any.proofs.flat.united.Goals as goal

pub united_parts-requires-clause-node : goal.united_parts-requires-clause-node
united_parts-requires-clause-node c = node c.args.matroid.now c.in-Union.parts c.deref.result.now c.in-Union.is c.deref.ensures.value
