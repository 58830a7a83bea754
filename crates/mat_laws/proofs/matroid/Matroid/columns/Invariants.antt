use Rattle.mat_laws.proofs.ColumnSteps.{AreEntering}
use Rattle.mat_laws.proofs.matroid.Matroid.columns.Given as goal

abbrev pub invariant-loop-z : goal.invariant-loop-z
invariant-loop-z g l = AreEntering (g.Self.Matroid.ground_size l.self) (g.Self.Matroid.indep l.self) l.base l.z l.columns
