-- The elements so far that weigh at least as much are in the set.
use Rattle.mat_sets.proofs.Common.{◌≡◌, not, those_below, is_below, weight_at}
use Rattle.mat_sets.proofs.heavy.heavy_elements.Given as goal

abbrev pub invariant-loop-x : goal.invariant-loop-x
invariant-loop-x l = l.set ≡ those_below l.x (λ y. not (is_below (weight_at l.weights y) l.at))
