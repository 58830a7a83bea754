use Rattle.mat_desc.proofs.Common.{◌≡◌, ◌-◌, [], length, nested_sets_at, naming, lines_left}
use Rattle.mat_desc.proofs.Classes.{with_front}
use Rattle.mat_desc.proofs.read.matroids.nested_set_lines.Given as goal

abbrev pub invariant-loop : goal.invariant-loop
invariant-loop l =
    (with_front l.sets.items l.caps.items (nested_sets_at (naming l.names) l.count (l.many - l.counter) l.sets.items (lines_left l.rest))
    ≡ nested_sets_at (naming l.names) l.count l.many [] (lines_left l.fn.lines))
    × (length l.sets.items ≡ l.counter) × (l.earlier.sets ≡ l.sets.items) × (l.earlier.count ≡ l.count)
