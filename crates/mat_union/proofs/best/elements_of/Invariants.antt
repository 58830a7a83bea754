use Rattle.mat_union.proofs.Common.{◌≡◌, those_below, is_same, weight_at}
use Rattle.mat_union.proofs.best.elements_of.Given as goal

abbrev pub invariant-loop-x : goal.invariant-loop-x
invariant-loop-x l = l.set ≡ those_below l.x (λ y. is_same (weight_at l.weights y) l.at)
