use Rattle.mat_graphic.proofs.Common.{ℕ, List, ◌<◌, ◌+◌, length, IsTree}
use Rattle.mat_graphic.proofs.EnteredTrails.{IsEntering}
use Rattle.mat_graphic.proofs.rooted_forest.enter_climb.Given as goal

abbrev pub invariant-loop-first : goal.invariant-loop-first
invariant-loop-first l =
    record {
      first : l.first < length l.forest.order.items;
      second : l.second < length l.forest.order.items;
      entering : (ends : ℕ → ℕ × ℕ) (X : List ℕ) → IsTree ends X l.forest.order.items l.forest.through.items l.forest.before.items
          → IsEntering ends X l.forest.order.items l.from l.to l.first l.second l.edge l.fn.columns l.columns;
    }

abbrev pub decreases-loop-first : goal.decreases-loop-first
decreases-loop-first l = l.first + l.second
