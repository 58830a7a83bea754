-- The rows so far stand from the first number on, and as many are there as numbers were passed.
use Rattle.std.proofs.Common.{◌≡◌, ◌+◌, length}
use Rattle.mat_work.specs.Rows.{StandFrom}
use Rattle.mat_work.proofs.forks.rows_in_turn.Given as goal

abbrev pub invariant-loop-i : goal.invariant-loop-i
invariant-loop-i g l =
    record {
      number : l.from + length l.rows.items ≡ l.i;
      stand : StandFrom (g.J.RowJob.stands l.job) l.from l.rows.items;
    }
