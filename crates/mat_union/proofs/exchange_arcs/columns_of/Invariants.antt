use Rattle.mat_union.proofs.Common.{take, AreColumnsOf}
use Rattle.mat_union.proofs.exchange_arcs.columns_of.Given as goal

-- the columns of the first members are made
abbrev pub invariant-loop-y : goal.invariant-loop-y
invariant-loop-y l = AreColumnsOf (take l.y-index l.members) l.rows l.added l.out l.columns
