use Rattle.mat_solve.proofs.Common.{◌≡◌, map, plain_rung}
use Rattle.mat_solve.proofs.ladders.plain_rungs.Given as goal

abbrev pub invariant-loop-set : goal.invariant-loop-set
invariant-loop-set l = l.all.items ≡ map (plain_rung l.weights) l.yielded
