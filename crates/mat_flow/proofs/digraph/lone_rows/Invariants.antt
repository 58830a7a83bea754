use Rattle.mat_flow.proofs.Rows.{AreLone}
use Rattle.mat_flow.proofs.digraph.lone_rows.Given as goal

abbrev pub invariant-loop-u : goal.invariant-loop-u
invariant-loop-u l = AreLone l.vertices l.u l.rows
