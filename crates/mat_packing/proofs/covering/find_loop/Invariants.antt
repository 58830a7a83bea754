use Rattle.mat_packing.proofs.Common.{◌≡◌, ◌<◌, ℕ, true, [], ◌∷◌}
use Rattle.mat_packing.proofs.covering.find_loop.Given as goal

abbrev pub invariant-loop-x : goal.invariant-loop-x
invariant-loop-x g l = (y : ℕ) → y < l.x → g.M.Matroid.indep l.m (y ∷ []) ≡ true
