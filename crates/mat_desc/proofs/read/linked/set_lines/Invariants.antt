use Rattle.mat_desc.proofs.Common.{◌≡◌, ◌-◌, repeat_at, set_line_at, naming, lines_left, with_front}
use Rattle.mat_desc.proofs.read.linked.set_lines.Given as goal

abbrev pub invariant-loop : goal.invariant-loop
invariant-loop l =
    with_front l.sets.items (repeat_at (set_line_at (naming l.names) l.key l.count) (l.many - l.counter) (lines_left l.rest))
    ≡ repeat_at (set_line_at (naming l.names) l.key l.count) l.many (lines_left l.fn.lines)
