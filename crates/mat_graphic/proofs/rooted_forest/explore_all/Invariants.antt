use Rattle.mat_graphic.proofs.Common.{◌≡◌, ◌<◌, ℕ, true, length, is_member, IsExploring}
use Rattle.mat_graphic.proofs.rooted_forest.explore_all.Given as goal

abbrev pub invariant-loop-v : goal.invariant-loop-v
invariant-loop-v l =
    record {
      long : length l.forest.place.items ≡ l.vertices;
      exploring : IsExploring l.firsts l.seconds l.set (length l.forest.place.items) (length l.forest.order.items) l.forest.place.items
          l.forest.order.items l.forest.through.items l.forest.before.items;
      found : (k : ℕ) → k < l.v → is_member k l.forest.order.items ≡ true;
    }
