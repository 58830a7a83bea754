-- The numbers so far are changed.
use Rattle.mat_witness.proofs.Common.{◌≡◌, ◌++◌, map, take, drop, evened}
use Rattle.mat_witness.proofs.parts.columns.rows.make_even.Given as goal

abbrev pub invariant-loop-i : goal.invariant-loop-i
invariant-loop-i l = l.numbers ≡ map (evened l.row l.column) (take l.i l.fn.numbers) ++ drop l.i l.fn.numbers
