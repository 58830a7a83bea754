use Rattle.mat_sets.proofs.Common.{◌≡◌, length}
use Rattle.mat_sets.proofs.Rows.{AreRemovedBelow}
use Rattle.mat_sets.proofs.bit_rows.BitRows.remove_from_each.Given as goal

-- the numbers are taken out of the first rows
abbrev pub invariant-loop-at : goal.invariant-loop-at
invariant-loop-at l = record {
  count : length l.self-inside.rows.items ≡ length l.fn.self;
  members : AreRemovedBelow l.at l.gone l.fn.self l.self-inside.rows.items;
}
