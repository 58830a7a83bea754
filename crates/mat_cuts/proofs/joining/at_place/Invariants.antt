use Rattle.mat_cuts.proofs.Common.{◌≡◌, eqb, those_below, at}
use Rattle.mat_cuts.proofs.joining.at_place.Given as goal

abbrev pub invariant-loop-v : goal.invariant-loop-v
invariant-loop-v l = l.part ≡ those_below l.v (λ v. eqb (at l.place v) l.last)
