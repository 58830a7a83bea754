use Rattle.mat_desc.proofs.Common.{◌≡◌, ◌-◌, length, repeat_at, weighted_at, naming, lines_left, with_front}
use Rattle.std.specs.List.{zip}
use Rattle.mat_desc.proofs.read.items.weighted_lines.Given as goal

abbrev pub invariant-loop : goal.invariant-loop
invariant-loop l = (with_front (zip l.pairs.items l.weights.items)
    (repeat_at (weighted_at (naming l.names) l.key l.first_bound l.second_bound) (l.many - l.counter) (lines_left l.rest)) ≡ repeat_at
    (weighted_at (naming l.names) l.key l.first_bound l.second_bound) l.many (lines_left l.fn.lines))
    × (length l.weights.items ≡ length l.pairs.items)
