use Rattle.mat_graphic.proofs.Common.{length}
use Rattle.mat_graphic.proofs.TrailScans.{IsScanning, places_left}
use Rattle.mat_graphic.proofs.rooted_forest.scan.Given as goal

abbrev pub invariant-loop-next : goal.invariant-loop-next
invariant-loop-next l =
    IsScanning l.tails l.heads l.set l.fn.forest.order.items l.fn.forest.through.items l.fn.forest.before.items l.vertex
    (length l.fn.forest.place.items) l.next
    l.forest.place.items l.forest.order.items l.forest.through.items l.forest.before.items

abbrev pub decreases-loop-next : goal.decreases-loop-next
decreases-loop-next l = places_left (length l.tails) l.next
