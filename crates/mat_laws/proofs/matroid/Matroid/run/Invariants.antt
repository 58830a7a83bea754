use Rattle.mat_laws.proofs.GreedyRunSteps.{IsRunning}
use Rattle.mat_laws.proofs.matroid.Matroid.run.Given as goal

abbrev pub invariant-loop-x : goal.invariant-loop-x
invariant-loop-x g l = IsRunning (g.Self.Matroid.indep l.self) l.order l.x-index l.set
