use Rattle.mat_check.proofs.Adding.{IsTrying}
use Rattle.mat_check.proofs.sets.searches.has_addable.Given as goal

abbrev pub invariant-loop-x : goal.invariant-loop-x
invariant-loop-x g l = IsTrying (g.M.Matroid.indep l.m) l.set l.larger l.x
