use Rattle.mat_desc.proofs.Common.{◌≡◌, ◌-◌, length, repeat_at, coloured_edge_at, naming, lines_left, with_front}
use Rattle.std.specs.List.{zip}
use Rattle.mat_desc.proofs.read.items.coloured_edge_lines.Given as goal

abbrev pub invariant-loop : goal.invariant-loop
invariant-loop l = (with_front (zip l.edges.items (zip l.colour_of.items l.weights.items))
    (repeat_at (coloured_edge_at (naming l.names) l.vertices l.colours) (l.many - l.counter) (lines_left l.rest)) ≡ repeat_at
    (coloured_edge_at (naming l.names) l.vertices l.colours) l.many (lines_left l.fn.lines))
    × (length l.colour_of.items ≡ length l.edges.items) × (length l.weights.items ≡ length l.edges.items)
