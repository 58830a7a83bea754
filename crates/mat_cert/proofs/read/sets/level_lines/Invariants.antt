use Rattle.mat_cert.proofs.Common.{◌≡◌, ◌-◌, lines_left, repeat_at, with_front, level_at}
use Rattle.mat_cert.proofs.read.sets.level_lines.Given as goal

-- the levels so far and those that are still read are those that are read in all
abbrev pub invariant-loop : goal.invariant-loop
invariant-loop l =
    with_front l.levels.items (repeat_at (level_at l.count) (l.many - l.counter) (lines_left l.rest))
    ≡ repeat_at (level_at l.count) l.many (lines_left l.fn.lines)
