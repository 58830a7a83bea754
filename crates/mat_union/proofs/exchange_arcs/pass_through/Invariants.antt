use Rattle.mat_union.proofs.Common.{take, ArePassed}
use Rattle.mat_union.proofs.exchange_arcs.pass_through.Given as goal

-- the row is put into those at the first places
abbrev pub invariant-loop-y : goal.invariant-loop-y
invariant-loop-y l = ArePassed l.v (take l.y-index l.places) l.fn.rows.items l.rows.items
