use Rattle.mat_graphic.proofs.Common.{◌≡◌, ◌<◌, ℕ, List, length, IsTree}
use Rattle.mat_graphic.proofs.Roots.{component_at}
use Rattle.mat_graphic.proofs.rooted_forest.root_above.Given as goal

abbrev pub invariant-loop-at : goal.invariant-loop-at
invariant-loop-at l =
    record {
      inside : l.at < length l.forest.order.items;
      same : (ends : ℕ → ℕ × ℕ) (X : List ℕ) → IsTree ends X l.forest.order.items l.forest.through.items l.forest.before.items
          → component_at ends X l.forest.order.items l.at ≡ component_at ends X l.forest.order.items l.place;
    }

abbrev pub decreases-loop-at : goal.decreases-loop-at
decreases-loop-at l = l.at
