use Rattle.mat_union.proofs.Common.{take}
use Rattle.mat_union.proofs.FollowedRows.{AreFollowing}
use Rattle.mat_union.proofs.exchange_arcs.follow_rows.Given as goal

-- the rows of the first places are passed through all
abbrev pub invariant-loop-v : goal.invariant-loop-v
invariant-loop-v l = AreFollowing (take l.v-index l.places) l.places l.fn.rows.items l.rows.items
