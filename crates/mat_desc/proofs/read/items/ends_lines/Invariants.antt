use Rattle.mat_desc.proofs.Common.{◌≡◌, ◌-◌, repeat_at, ends_line_at, naming, lines_left, with_front}
use Rattle.mat_desc.proofs.read.items.ends_lines.Given as goal

abbrev pub invariant-loop : goal.invariant-loop
invariant-loop l =
    with_front l.pairs.items (repeat_at (ends_line_at (naming l.names) l.key l.vertices) (l.many - l.counter) (lines_left l.rest))
    ≡ repeat_at (ends_line_at (naming l.names) l.key l.vertices) l.many (lines_left l.fn.lines)
