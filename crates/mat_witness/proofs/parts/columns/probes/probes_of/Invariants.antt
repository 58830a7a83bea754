-- The probes tell the members so far from one another.
use Rattle.mat_witness.proofs.Common.{column_of}
use Rattle.mat_witness.proofs.TellingRows.{AreProbes}
use Rattle.mat_witness.proofs.parts.columns.probes.probes_of.Given as goal

abbrev pub invariant-loop-e : goal.invariant-loop-e
invariant-loop-e l = AreProbes l.matroid.dim (column_of l.matroid.columns) l.set l.e-index l.rows.items l.probes.items
