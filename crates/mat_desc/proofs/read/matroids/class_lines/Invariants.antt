use Rattle.mat_desc.proofs.Common.{◌≡◌, ◌-◌, [], classes_at, naming, lines_left}
use Rattle.mat_desc.proofs.Classes.{with_front}
use Rattle.mat_desc.proofs.read.matroids.class_lines.Given as goal

abbrev pub invariant-loop : goal.invariant-loop
invariant-loop l =
    with_front l.classes.items l.caps.items (classes_at (naming l.names) l.count (l.many - l.counter) l.taken (lines_left l.rest))
    ≡ classes_at (naming l.names) l.count l.many [] (lines_left l.fn.lines)
