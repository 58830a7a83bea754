use Rattle.mat_cert.proofs.Common.{◌≡◌, ◌-◌, lines_left, repeat_at, with_front, set_at}
use Rattle.mat_cert.proofs.read.sets.set_lines.Given as goal

-- the sets so far and those that are still read are those that are read in all
abbrev pub invariant-loop : goal.invariant-loop
invariant-loop l =
    with_front l.sets.items (repeat_at (set_at l.key l.bound) (l.many - l.counter) (lines_left l.rest))
    ≡ repeat_at (set_at l.key l.bound) l.many (lines_left l.fn.lines)
