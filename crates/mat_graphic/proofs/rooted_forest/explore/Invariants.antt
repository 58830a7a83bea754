use Rattle.mat_graphic.proofs.Common.{◌≡◌, true, length, ◌-◌, is_member, IsExploring, IsFront}
use Rattle.mat_graphic.proofs.rooted_forest.explore.Given as goal

abbrev pub invariant-loop-at : goal.invariant-loop-at
invariant-loop-at l =
    record {
      exploring : IsExploring l.firsts l.seconds l.set (length l.fn.forest.place.items) l.at l.forest.place.items l.forest.order.items
          l.forest.through.items l.forest.before.items;
      found : is_member l.vertex l.forest.order.items ≡ true;
      front : IsFront l.fn.forest.order.items l.forest.order.items;
    }

abbrev pub decreases-loop-at : goal.decreases-loop-at
decreases-loop-at l = length l.fn.forest.place.items - l.at
