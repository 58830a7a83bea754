use Rattle.mat_union.proofs.FollowedRows.{AreUnitedBelow}
use Rattle.mat_union.proofs.exchange_arcs.unite_rows.Given as goal

abbrev pub invariant-loop-y : goal.invariant-loop-y
invariant-loop-y l = AreUnitedBelow l.y l.more l.fn.rows.items l.rows.items
