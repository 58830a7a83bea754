use Rattle.mat_union.proofs.Common.{IsPushTable}
use Rattle.mat_union.proofs.move_graph.push_table.Given as goal

abbrev pub invariant-loop-u : goal.invariant-loop-u
invariant-loop-u l = IsPushTable l.rows l.u l.table
