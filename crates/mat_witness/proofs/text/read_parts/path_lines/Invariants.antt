use Rattle.mat_witness.proofs.Common.{◌≡◌, ◌-◌, lines_left, repeat_at, with_front, path_at}
use Rattle.mat_witness.proofs.text.read_parts.path_lines.Given as goal

-- the paths so far and those that are still read are those that are read in all
abbrev pub invariant-loop : goal.invariant-loop
invariant-loop l =
    with_front l.paths.items (repeat_at (path_at l.vertices) (l.many - l.counter) (lines_left l.rest))
    ≡ repeat_at (path_at l.vertices) l.many (lines_left l.fn.lines)
