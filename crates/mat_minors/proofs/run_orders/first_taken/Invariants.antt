use Rattle.mat_minors.proofs.Common.{◌≡◌, ℕ, List, Bool, [], AreDistinct, grown_along, IsMatroid}
use Rattle.mat_minors.proofs.MinorRuns.{IsCapped}
use Rattle.mat_minors.proofs.run_orders.first_taken.Given as goal

abbrev pub invariant-loop-x : goal.invariant-loop-x
invariant-loop-x l = (n : ℕ) (p : List ℕ → Bool) → IsMatroid n p → AreDistinct l.order → l.all ≡ grown_along p [] l.order
    → IsCapped p l.cap l.order l.x-index l.set
