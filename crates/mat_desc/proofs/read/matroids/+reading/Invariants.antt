use Rattle.mat_desc.proofs.Common.{◌≡◌, ◌+◌, ◌-◌, ◌*◌, map, tree_of, repeat_at, lines_left, with_front, matroid_within, naming}
use Rattle.mat_desc.proofs.read.matroids.+reading.Given as goal

abbrev pub decreases-next_matroid_within : goal.decreases-next_matroid_within
decreases-next_matroid_within l = 3 * l.room

abbrev pub decreases-dual : goal.decreases-dual
decreases-dual l = 3 * l.room + 1

abbrev pub decreases-truncation : goal.decreases-truncation
decreases-truncation l = 3 * l.room + 1

abbrev pub decreases-restriction : goal.decreases-restriction
decreases-restriction l = 3 * l.room + 1

abbrev pub decreases-contraction : goal.decreases-contraction
decreases-contraction l = 3 * l.room + 1

abbrev pub decreases-matroids_within : goal.decreases-matroids_within
decreases-matroids_within l = 3 * l.room + 1

abbrev pub decreases-union_of : goal.decreases-union_of
decreases-union_of l = 3 * l.room + 2

abbrev pub invariant-matroids_within-loop : goal.invariant-matroids_within-loop
invariant-matroids_within-loop l =
    with_front (map tree_of l.matroids.items) (repeat_at (matroid_within l.room (naming l.names) l.count) (l.many - l.counter) (lines_left l.rest))
    ≡ repeat_at (matroid_within l.room (naming l.names) l.count) l.many (lines_left l.fn.lines)
