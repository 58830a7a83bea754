use Rattle.mat_witness.proofs.Common.{◌≡◌, ◌-◌, lines_left, repeat_at, with_front, binary_line_at}
use Rattle.mat_witness.proofs.text.read_parts.binary_lines.Given as goal

-- the numbers so far and those that are still read are those that are read in all
abbrev pub invariant-loop : goal.invariant-loop
invariant-loop l =
    with_front l.numbers.items (repeat_at (binary_line_at l.key l.digits) (l.many - l.counter) (lines_left l.rest))
    ≡ repeat_at (binary_line_at l.key l.digits) l.many (lines_left l.fn.lines)
