use Rattle.mat_laws.proofs.Rows.{IsCollecting}
use Rattle.mat_laws.proofs.matroid.Matroid.circuit_by_questions.Given as goal

abbrev pub invariant-loop-y : goal.invariant-loop-y
invariant-loop-y g l = IsCollecting (g.Self.Matroid.indep l.self) l.base l.x l.y-index l.with
