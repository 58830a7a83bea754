use Rattle.mat_desc.proofs.Common.{◌≡◌, ◌-◌, repeat_at, column_at, lines_left, with_front}
use Rattle.mat_desc.proofs.read.items.column_lines.Given as goal

abbrev pub invariant-loop : goal.invariant-loop
invariant-loop l = with_front l.columns.items (repeat_at (column_at l.dim) (l.many - l.counter) (lines_left l.rest)) ≡ repeat_at
    (column_at l.dim) l.many (lines_left l.fn.lines)
