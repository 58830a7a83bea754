-- The rows meet each column so far evenly.
use Rattle.mat_witness.proofs.Common.{column_of}
use Rattle.mat_witness.proofs.ReducedRows.{AreReduced}
use Rattle.mat_witness.proofs.parts.columns.zeros.zeros_of.Given as goal

abbrev pub invariant-loop-e : goal.invariant-loop-e
invariant-loop-e l = AreReduced l.matroid.dim (column_of l.matroid.columns) l.inside l.e-index l.rows.items
