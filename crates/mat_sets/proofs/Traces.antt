-- The trace back along the vertices before, from its end on.
use Rattle.mat_sets.proofs.Common.{List, get_or, length, suc, ℕ, ◌<◌, ◌≡◌, ◌≤◌}

-- the places from `at` on are traced
pub record IsTraceFrom (before : List ℕ) (arcs last at : ℕ) (vertices : List ℕ) : Type 0 where
  pub long : length vertices ≡ suc arcs
  pub here : at ≤ arcs
  pub ends : get_or vertices arcs 0 ≡ last
  pub below : (i : ℕ) → at ≤ i → i ≤ arcs → get_or vertices i 0 < length before
  pub steps : (i : ℕ) → at ≤ i → i < arcs → get_or vertices i 0 ≡ get_or before (get_or vertices (suc i) 0) 0
