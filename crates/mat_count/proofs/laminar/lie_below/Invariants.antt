use Rattle.mat_count.proofs.Common.{ℕ, ◌<◌, [], get_or, AllBelow}
use Rattle.mat_count.proofs.laminar.lie_below.Given as goal

abbrev pub invariant-loop-i : goal.invariant-loop-i
invariant-loop-i l = (k : ℕ) → k < l.i → AllBelow l.count (get_or l.sets k [])
