use Rattle.mat_solve.proofs.Common.{◌≡◌, map, priced_rung}
use Rattle.mat_solve.proofs.ladders.priced_rungs.Given as goal

abbrev pub invariant-loop-rung : goal.invariant-loop-rung
invariant-loop-rung l = l.all.items ≡ map (priced_rung l.weights) l.yielded
