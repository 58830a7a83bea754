use Rattle.mat_sets.proofs.Common.{◌≡◌, take}
use Rattle.mat_sets.proofs.bit_rows.BitRows.copy.Given as goal

-- the first rows are copied
abbrev pub invariant-loop-at : goal.invariant-loop-at
invariant-loop-at l = l.rows.items ≡ take l.at l.self
