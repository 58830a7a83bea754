use Rattle.mat_sets.proofs.Common.{take, AreEmptied}
use Rattle.mat_sets.proofs.bit_rows.BitRows.empty_each.Given as goal

-- the rows at the first places are empty
abbrev pub invariant-loop-i : goal.invariant-loop-i
invariant-loop-i l = AreEmptied (take l.i-index l.places) l.fn.self l.self
