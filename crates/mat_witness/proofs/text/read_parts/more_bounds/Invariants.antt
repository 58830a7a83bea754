use Rattle.mat_witness.proofs.Common.{◌≡◌, ◌-◌, map, lines_left, repeat_at, with_front, tree_of, bound_at, bound_part}
use Rattle.mat_witness.proofs.text.read_parts.more_bounds.Given as goal

-- the bounds so far and those that are still read are those that are read in all
abbrev pub invariant-loop : goal.invariant-loop
invariant-loop l =
    with_front (map bound_part l.bounds.items) (repeat_at (bound_at l.count (tree_of l.matroid)) (l.many - l.counter) (lines_left l.rest))
    ≡ with_front (map bound_part l.fn.front.items) (repeat_at (bound_at l.count (tree_of l.matroid)) l.many (lines_left l.fn.lines))
