use Rattle.mat_sets.proofs.Common.{take, IsEntered}
use Rattle.mat_sets.proofs.row_list.RowList.insert_each.Given as goal

-- k stands in the rows at the first places
abbrev pub invariant-loop-i : goal.invariant-loop-i
invariant-loop-i l = IsEntered l.k (take l.i-index l.places) l.fn.self l.self
